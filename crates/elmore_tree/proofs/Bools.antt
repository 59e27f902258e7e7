-- Truth values, and lists at a place.
use Rattle.std.proofs.Common.{◌≡◌, ◌≢◌, ℕ, zero, suc, ◌<◌, Bool, true, false, eqb, ◌||◌, List, [], ◌∷◌, ◌++◌, length, Some, refl, sym, ap, ◌∙◌, arith, inl, inr, ◌⊎◌}
use Rattle.std.specs.List.{slice_get, list_any}
use Rattle.std.proofs.lemmas.Bool.{false≢true}
use Rattle.std.proofs.lemmas.Bool.Decides.{nat_tests}
use Rattle.std.proofs.lemmas.List.Folds.{list_any-append}
use Rattle.std.proofs.lemmas.Option.{same_Some, none-some}

pub or_past : (a b c : Bool) → ((a || b) || c) ≡ (a || (c || b))
or_past true b c = refl
or_past false true true = refl
or_past false true false = refl
or_past false false true = refl
or_past false false false = refl

pub or_assoc : (a b c : Bool) → (a || (b || c)) ≡ ((a || b) || c)
or_assoc true b c = refl
or_assoc false b c = refl

pub or_nothing : (a : Bool) → (a || false) ≡ a
or_nothing true = refl
or_nothing false = refl

pub not_both : {A : Type 0} (a : Bool) → a ≡ true → a ≡ false → A
not_both a h k = absurd (false≢true (sym k ∙ h))

pub eqb_same : (n : ℕ) → eqb n n ≡ true
eqb_same n = grind (arith, nat_tests)

pub eqb_apart : (m n : ℕ) → m ≢ n → eqb m n ≡ false
eqb_apart m n h = grind (arith, nat_tests)

pub eqb_is : (m n : ℕ) → eqb m n ≡ true → m ≡ n
eqb_is m n h = grind (arith, nat_tests)

pub any_push : {X : Type 0} (p : X → Bool) (xs : List X) (x : X) → list_any p (xs ++ x ∷ []) ≡ (list_any p xs || p x)
any_push p xs x = list_any-append p xs (x ∷ []) ∙ ap (λ b. list_any p xs || b) (or_nothing (p x))

-- an element of a list with one more at its end
pub slice_get_push : {X : Type 0} (xs : List X) (x : X) (i : ℕ) (y : X) → slice_get (xs ++ x ∷ []) i ≡ Some y
    → ((i < length xs) × (slice_get xs i ≡ Some y)) ⊎ ((i ≡ length xs) × (x ≡ y))
slice_get_push [] x zero y h = inr (refl, same_Some x y h)
slice_get_push [] x (suc i) y h = absurd (none-some y h)
slice_get_push (z ∷ zs) x zero y h = inl (omega arith, h)
slice_get_push (z ∷ zs) x (suc i) y h =
    elim (slice_get_push zs x i y h) [
      | inl w ↦ inl (let l = w.0 in omega arith, w.1)
      | inr w ↦ inr (let l = w.0 in omega arith, w.1)
    ]
