-- Sums over the places of a list.
use Rattle.std.proofs.Common.{◌≡◌, ◌≢◌, ℕ, zero, suc, ◌+◌, ◌*◌, ◌≤◌, List, [], ◌∷◌, set, sym, ap, refl, arith}
use Rattle.std.specs.List.{sum_by}
use Rattle.std.proofs.lemmas.List.Sums.{sum_by-cons}
use mathlib.Core.Option.{some, some-injective, some-ne-none}
use lib.ListN.{get_elem?}

module _ {A : Type 0} (f : A → ℕ) where
  -- one element changes
  pub total_set : (xs : List A) (i : ℕ) (a b : A) → get_elem? xs i ≡ some a → sum_by f (set xs i b) + f a ≡ sum_by f xs + f b
  total_set [] i a b e = absurd (some-ne-none a (sym e))
  total_set (x ∷ xs) zero a b e =
      let h : f x ≡ f a = ap f (some-injective x a e) in
      let p = sum_by-cons f b xs in
      let q = sum_by-cons f x xs in
      omega (arith, h, p, q)
  total_set (x ∷ xs) (suc i) a b e =
      let h = total_set xs i a b e in
      let p = sum_by-cons f x (set xs i b) in
      let q = sum_by-cons f x xs in
      omega (arith, h, p, q)

  -- one element has no more than all
  pub total_part : (xs : List A) (i : ℕ) (a : A) → get_elem? xs i ≡ some a → f a ≤ sum_by f xs
  total_part [] i a e = absurd (some-ne-none a (sym e))
  total_part (x ∷ xs) zero a e = let h : f x ≡ f a = ap f (some-injective x a e) in let p = sum_by-cons f x xs in omega (arith, h, p)
  total_part (x ∷ xs) (suc i) a e = let h = total_part xs i a e in let p = sum_by-cons f x xs in omega (arith, h, p)

  two_parts : (xs : List A) (i j : ℕ) (a b : A) → j ≢ i → get_elem? xs i ≡ some a → get_elem? xs j ≡ some b → f a + f b ≤ sum_by f xs
  two_parts [] i j a b n e g = absurd (some-ne-none a (sym e))
  two_parts (x ∷ xs) zero zero a b n e g = absurd (n refl)
  two_parts (x ∷ xs) zero (suc j) a b n e g =
      let h : f x ≡ f a = ap f (some-injective x a e) in
      let k = total_part xs j b g in
      let p = sum_by-cons f x xs in
      omega (arith, h, k, p)
  two_parts (x ∷ xs) (suc i) zero a b n e g =
      let h : f x ≡ f b = ap f (some-injective x b g) in
      let k = total_part xs i a e in
      let p = sum_by-cons f x xs in
      omega (arith, h, k, p)
  two_parts (x ∷ xs) (suc i) (suc j) a b n e g =
      let h = two_parts xs i j a b (λ q. n (ap suc q)) e g in
      let p = sum_by-cons f x xs in
      omega (arith, h, p)

  -- where one element has all, every other has nothing
  pub total_rest : (xs : List A) (i j : ℕ) (a b : A) → j ≢ i → get_elem? xs i ≡ some a → get_elem? xs j ≡ some b → sum_by f xs ≡ f a → f b ≡ 0
  total_rest xs i j a b n e g h = let k = two_parts xs i j a b n e g in omega (arith, h, k)

  total_none : (xs : List A) → ((j : ℕ) (b : A) → get_elem? xs j ≡ some b → f b ≡ 0) → sum_by f xs ≡ 0
  total_none [] h = refl
  total_none (x ∷ xs) h =
      let a = h 0 x refl in
      let k = total_none xs (λ j b e. h (suc j) b e) in
      let p = sum_by-cons f x xs in
      omega (arith, a, k, p)

  -- where every other element has nothing, one has all
  pub total_only : (xs : List A) (i : ℕ) (a : A) → get_elem? xs i ≡ some a → ((j : ℕ) (b : A) → j ≢ i → get_elem? xs j ≡ some b → f b ≡ 0) → sum_by f xs ≡ f a
  total_only [] i a e h = absurd (some-ne-none a (sym e))
  total_only (x ∷ xs) zero a e h =
      let k = total_none xs (λ j b g. h (suc j) b (λ q. omega arith) g) in
      let d : f x ≡ f a = ap f (some-injective x a e) in
      let p = sum_by-cons f x xs in
      omega (arith, k, d, p)
  total_only (x ∷ xs) (suc i) a e h =
      let k = total_only xs i a e (λ j b n g. h (suc j) b (λ q. n (omega arith)) g) in
      let d = h 0 x (λ q. omega arith) refl in
      let p = sum_by-cons f x xs in
      omega (arith, k, d, p)

-- a bound of each is a bound of all
pub total_bound : {A : Type 0} (f g h k : A → ℕ) (xs : List A) → ((j : ℕ) (b : A) → get_elem? xs j ≡ some b → f b + g b ≤ 65 * h b + k b) → sum_by f xs + sum_by g xs ≤ 65 * sum_by h xs + sum_by k xs
total_bound f g h k [] each = omega arith
total_bound f g h k (x ∷ xs) each =
    let a = each 0 x refl in
    let r = total_bound f g h k xs (λ j b e. each (suc j) b e) in
    let p = sum_by-cons f x xs in
    let q = sum_by-cons g x xs in
    let u = sum_by-cons h x xs in
    let w = sum_by-cons k x xs in
    omega (arith, a, r, p, q, u, w)
