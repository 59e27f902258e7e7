-- What was found for instances, one group after another.
use Rattle.std.proofs.Common.{◌≡◌, ◌≢◌, ℕ, zero, suc, ◌<◌, ◌==◌, ◌&&◌, Bool, true, false, cond, List, [], ◌∷◌, ◌++◌, length, set, Some, refl, ap, sym, ◌∙◌, subst, arith, inl, inr, ◌⊎◌}
use Rattle.std.specs.Prelude.{Option, None}
use Rattle.std.specs.List.{slice_get}
use Rattle.std.proofs.lemmas.Bool.{cases_eq, eq-eqb}
use Rattle.std.proofs.lemmas.List.{get_or-set_same, length-set}
use Rattle.std.proofs.lemmas.Option.{none-some, same_Some, slice_get-get_or}
use Rattle.link_pins.specs.declared.known.KnownAt.{KnownAt}
use Rattle.link_pins.specs.declared.related.CellGroups.{CellGroups}
use Rattle.link_pins.specs.declared.related.PinGroup.{PinGroup}
use Rattle.link_pins.specs.Known.{known_by, known, AreBefore, AreRight}
use Rattle.link_pins.specs.Related.{group_numbered}
use Rattle.link_pins.proofs.PlaceLaws.{same_number}

module _ {T : Type 0} where
  push_none : (xs : List (Option (KnownAt T))) (n c f : ℕ) → known (xs ++ None ∷ []) n c f ≡ known xs n c f
  push_none [] zero c f = refl
  push_none [] (suc n) c f = refl
  push_none (x ∷ xs) zero c f = refl
  push_none (x ∷ xs) (suc n) c f = push_none xs n c f

  pub known_push : (old new : List (Option (KnownAt T))) → new ≡ old ++ None ∷ [] → (n c f : ℕ) → known new n c f ≡ known old n c f
  known_push old new push n c f = ap (λ l. known l n c f) push ∙ push_none old n c f

  set_at : (xs : List (Option (KnownAt T))) (i : ℕ) (k : KnownAt T) → i < length xs → slice_get (set xs i (Some k)) i ≡ Some (Some k)
  set_at xs i k lt =
      let there : i < length (set xs i (Some k)) = omega (arith, lt, length-set xs i (Some k)) in
      slice_get-get_or (set xs i (Some k)) i (Some k) there ∙ ap Some (get_or-set_same xs i (Some k) (Some k) lt)

  pub known_put : (old new : List (Option (KnownAt T))) (i : ℕ) (k : KnownAt T) → i < length old → new ≡ set old i (Some k) → known new i k.cell k.from ≡ Some k.value
  known_put old new i k lt put =
      ap (λ l. known l i k.cell k.from) put
      ∙ (ap (known_by k.cell k.from) (set_at old i k lt)
      ∙ (ap (λ b. cond (b && k.cell == k.cell) (Some k.value) None) (eq-eqb k.from k.from refl) ∙ ap (λ b. cond b (Some k.value) None) (eq-eqb k.cell k.cell refl)))

  is_value : (k : KnownAt T) (c f : ℕ) (x : T) → known_by c f (Some (Some k)) ≡ Some x → (c ≡ k.cell) × (f ≡ k.from) × (x ≡ k.value)
  is_value k c f x h = by (k.from == f) (k.cell == c) refl refl h
    where
      by : (a b : Bool) → (k.from == f) ≡ a → (k.cell == c) ≡ b → cond (a && b) (Some k.value) None ≡ Some x → (c ≡ k.cell) × (f ≡ k.from) × (x ≡ k.value)
      by true true p q e = (sym (same_number k.cell c q), sym (same_number k.from f p), sym (same_Some k.value x e))
      by true false p q e = absurd (none-some x e)
      by false b p q e = absurd (none-some x e)

  pub known_others : (old new : List (Option (KnownAt T))) (i : ℕ) (k : KnownAt T) → i < length old → new ≡ set old i (Some k) → (n c f : ℕ) (x : T) → known new n c f ≡ Some x
      → ((n ≡ i) × (c ≡ k.cell) × (f ≡ k.from) × (x ≡ k.value)) ⊎ (known old n c f ≡ Some x)
  known_others old new i k lt put n c f x h = elim (cases_eq n i) [
    | inl same ↦
        let here : known_by c f (Some (Some k)) ≡ Some x =
        sym (ap (known_by c f) (ap (slice_get new) same ∙ (ap (λ l. slice_get l i) put ∙ set_at old i k lt))) ∙ h in
        let is = is_value k c f x here in
        inl (same, is.0, is.1, is.2)
    | inr other ↦
        let was : slice_get new n ≡ slice_get old n = ap (λ l. slice_get l n) put ∙ apart old i n other in
        inr (sym (ap (known_by c f) was) ∙ h)
  ]
    where
      apart : (xs : List (Option (KnownAt T))) (i n : ℕ) → n ≢ i → slice_get (set xs i (Some k)) n ≡ slice_get xs n
      apart [] i n other = refl
      apart (y ∷ ys) zero zero other = absurd (other refl)
      apart (y ∷ ys) zero (suc n) other = refl
      apart (y ∷ ys) (suc i) zero other = refl
      apart (y ∷ ys) (suc i) (suc n) other = apart ys i n (λ e. other (ap suc e))

  module _ (R : T → PinGroup → Type 0) (cells : List CellGroups) where
    -- a new instance
    pub starts : (from : ℕ) (of : List (Option (KnownAt T))) → AreBefore from of → AreRight R cells from of
    starts from of before = record {
      most = λ n c f x h. omega (arith, before n c f x h);
      right = λ n c x v h at. absurd (omega (arith, before n c from x h));
    }

    -- and the next one
    pub ends : (from to : ℕ) (of : List (Option (KnownAt T))) → from < to → AreRight R cells from of → AreBefore to of
    ends from to of lt are n c f x h = omega (arith, are.most n c f x h, lt)

    -- something more is found
    pub found_more : (from i c : ℕ) (x : T) (old new : List (Option (KnownAt T)))
        → ((n d f : ℕ) (y : T) → known new n d f ≡ Some y → ((n ≡ i) × (d ≡ c) × (f ≡ from) × (y ≡ x)) ⊎ (known old n d f ≡ Some y))
        → ((v : PinGroup) → group_numbered cells c i ≡ Some v → R x v) → AreRight R cells from old → AreRight R cells from new
    found_more from i c x old new others is are = record {
      most = λ n d f y h. elim (others n d f y h) [
        | inl e ↦ omega (arith, e.2)
        | inr k ↦ are.most n d f y k
      ];
      right = λ n d y v h at. elim (others n d from y h) [
        | inl e ↦
            let here : group_numbered cells c i ≡ Some v = ap (λ m. group_numbered cells m i) (sym e.1) ∙ (ap (group_numbered cells d) (sym e.0) ∙ at) in
            subst (λ (z : T). R z v) (sym e.3) (is v here)
        | inr k ↦ are.right n d y v k at
      ];
    }
