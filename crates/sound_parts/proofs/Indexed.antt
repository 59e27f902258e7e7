-- A fact at each element of a list that speaks of its index.
use Rattle.std.proofs.Common.{◌≡◌, ℕ, ◌<◌, ◌≤◌, List, length, Some, IfSome, inl, inr, sym, subst, arith}
use Rattle.std.specs.List.{slice_get}
use Rattle.std.proofs.lemmas.Bool.{cases_lt}
use Rattle.std.proofs.lemmas.Option.{slice_get_past}

-- the fact holds at the element of the index `i`, where there is one
abbrev pub HoldsAt : {X : Type 0} → (ℕ → X → Type 0) → List X → ℕ → Type 0
HoldsAt P xs i = IfSome (slice_get xs i) (P i)

pub holds_at : {X : Type 0} (P : ℕ → X → Type 0) (xs : List X) (i : ℕ) (x : X) → slice_get xs i ≡ Some x → P i x → HoldsAt P xs i
holds_at P xs i x e h = subst (λ o. IfSome o (P i)) (sym e) h

pub fact_at : {X : Type 0} (P : ℕ → X → Type 0) (xs : List X) (i : ℕ) (x : X) → slice_get xs i ≡ Some x → HoldsAt P xs i → P i x
fact_at P xs i x e h = subst (λ o. IfSome o (P i)) e h

pub holds_everywhere : {X : Type 0} (P : ℕ → X → Type 0) (xs : List X) (count : ℕ) → length xs ≤ count
    → ((k : ℕ) → k < count → HoldsAt P xs k) → (k : ℕ) → HoldsAt P xs k
holds_everywhere P xs count past before k = elim (cases_lt k (length xs)) [
  | inl lt ↦ before k (omega (arith, lt, past))
  | inr ge ↦ subst (λ o. IfSome o (P k)) (sym (slice_get_past xs k ge)) tt
]
