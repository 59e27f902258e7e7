-- What holds of each item of a list, and items by their places.
use Rattle.std.specs.Prelude.{◌≡◌, refl, ℕ, zero, suc, ◌+◌, ◌<◌, Bool, true, false, List, [], ◌∷◌, ◌++◌, length, map, flat_map, filter_map, filter, find, position, nat_lt}
use Rattle.std.specs.Prelude.{Option, Some, None, if◌then◌else◌}
use Rattle.std.specs.List.{AllByRecursion, slice_get, enumerate_from, cons_option, position_or_len}
use Rattle.std.proofs.Common.{arith, sym, ap, ◌∙◌}
use Rattle.std.proofs.lemmas.Bool.{ltb-true}
use Rattle.xt_model.specs.Options.{◌>>=◌}

-- ---- what comes one after another
module _ {A B : Type 0} where
  -- what comes behind a value that may be missing comes behind one that is there
  pub got : (m : Option A) (f : A → Option B) (y : B) → (m >>= f) ≡ Some y → (x : A) × (m ≡ Some x) × (f x ≡ Some y)
  got None f y e = absurd (cc)
  got (Some x) f y e = (x, refl, e)

-- ---- each item
module _ {X : Type 0} (P : X → Type 0) where
  pub each-append : (xs ys : List X) → AllByRecursion P xs → AllByRecursion P ys → AllByRecursion P (xs ++ ys)
  each-append [] ys a b = b
  each-append (x ∷ xs) ys a b = (a.0, each-append xs ys a.1 b)

  pub each-weaker : (Q : X → Type 0) → ((x : X) → P x → Q x) → (xs : List X) → AllByRecursion P xs → AllByRecursion Q xs
  each-weaker Q f [] a = tt
  each-weaker Q f (x ∷ xs) a = (f x a.0, each-weaker Q f xs a.1)

  pub each_at : (xs : List X) (i : ℕ) (x : X) → AllByRecursion P xs → slice_get xs i ≡ Some x → P x
  each_at [] i x a h = absurd (cc)
  each_at (y ∷ xs) zero x a h = let e : y ≡ x = cc in rw e at a.0
  each_at (y ∷ xs) (suc i) x a h = each_at xs i x a.1 h

  pub each_by : (xs : List X) → ((i : ℕ) (x : X) → slice_get xs i ≡ Some x → P x) → AllByRecursion P xs
  each_by [] f = tt
  each_by (x ∷ xs) f = (f 0 x refl, each_by xs (λ i y h. f (suc i) y h))

  found_by : (b : Bool) (x y : X) (o : Option X) → P x → (o ≡ Some y → P y) → (if b then Some x else o) ≡ Some y → P y
  found_by true x y o p f e = let same : x ≡ y = cc in rw same at p
  found_by false x y o p f e = f e

  -- what is found is one of the items
  pub each_find : (p : X → Bool) (xs : List X) (y : X) → AllByRecursion P xs → find p xs ≡ Some y → P y
  each_find p [] y a e = absurd (cc)
  each_find p (x ∷ xs) y a e = found_by (p x) x y (find p xs) a.0 (each_find p xs y a.1) e

  kept_by : (b : Bool) (x : X) (xs : List X) → P x → AllByRecursion P xs → AllByRecursion P (if b then x ∷ xs else xs)
  kept_by true x xs p a = (p, a)
  kept_by false x xs p a = a

  pub each_filter : (p : X → Bool) (xs : List X) → AllByRecursion P xs → AllByRecursion P (filter p xs)
  each_filter p [] a = tt
  each_filter p (x ∷ xs) a = kept_by (p x) x (filter p xs) a.0 (each_filter p xs a.1)

within_by : (k n m : ℕ) (b : Bool) → nat_lt k n ≡ b → (if b then Some k else None) ≡ Some m → m < n
within_by k n m true lt e = let same : k ≡ m = cc in rw same at (ltb-true k n lt)
within_by k n m false lt e = absurd (cc)

module _ {X : Type 0} where
  true_by : (p : X → Bool) (b : Bool) (x y : X) (o : Option X) → p x ≡ b → (o ≡ Some y → p y ≡ true) → (if b then Some x else o) ≡ Some y → p y ≡ true
  true_by p true x y o is f e = let same : x ≡ y = cc in rw same at is
  true_by p false x y o is f e = f e

  -- what is found passes the test
  pub find_true : (p : X → Bool) (xs : List X) (y : X) → find p xs ≡ Some y → p y ≡ true
  find_true p [] y e = absurd (cc)
  find_true p (x ∷ xs) y e = true_by p (p x) x y (find p xs) refl (find_true p xs y) e

  -- a place is within the list
  pub position_within : (p : X → Bool) (xs : List X) (k : ℕ) → position p xs ≡ Some k → k < length xs
  position_within p xs k e = within_by (position_or_len p xs) (length xs) k (nat_lt (position_or_len p xs) (length xs)) refl e

module _ {X Y : Type 0} (Q : X → Type 0) (P : Y → Type 0) where
  given_by : (o : Option Y) (ys : List Y) → ((y : Y) → o ≡ Some y → P y) → AllByRecursion P ys → AllByRecursion P (cons_option o ys)
  given_by None ys f a = a
  given_by (Some y) ys f a = (f y refl, a)

  pub each_given : (f : X → Option Y) → ((x : X) (y : Y) → Q x → f x ≡ Some y → P y) → (xs : List X) → AllByRecursion Q xs → AllByRecursion P (filter_map f xs)
  each_given f g [] a = tt
  each_given f g (x ∷ xs) a = given_by (f x) (filter_map f xs) (λ y e. g x y a.0 e) (each_given f g xs a.1)

  pub each_joined : (f : X → List Y) → ((x : X) → Q x → AllByRecursion P (f x)) → (xs : List X) → AllByRecursion Q xs → AllByRecursion P (flat_map f xs)
  each_joined f g [] a = tt
  each_joined f g (x ∷ xs) a = each-append P (f x) (flat_map f xs) (g x a.0) (each_joined f g xs a.1)

-- of every item
pub each_any : {X : Type 0} (xs : List X) → AllByRecursion (λ x. Unit {0}) xs
each_any [] = tt
each_any (x ∷ xs) = (tt, each_any xs)

-- ---- items by their places
module _ {X : Type 0} where
  pub there : (xs : List X) (i : ℕ) → i < length xs → (x : X) × (slice_get xs i ≡ Some x)
  there [] i lt = absurd (omega (arith, lt))
  there (x ∷ xs) zero lt = (x, refl)
  there (x ∷ xs) (suc i) lt = there xs i (omega (arith, lt))

  pub within : (xs : List X) (i : ℕ) (x : X) → slice_get xs i ≡ Some x → i < length xs
  within [] i x h = absurd (cc)
  within (y ∷ xs) zero x h = omega arith
  within (y ∷ xs) (suc i) x h = let lt = within xs i x h in omega (arith, lt)

  pub numbered_at : (k : ℕ) (xs : List X) (i : ℕ) (n : ℕ × X) → slice_get (enumerate_from k xs) i ≡ Some n
      → (x : X) × (slice_get xs i ≡ Some x) × (n ≡ (k + i, x))
  numbered_at k [] i n h = absurd (cc)
  numbered_at k (x ∷ xs) zero n h = (x, refl, (let same : ◌≡◌ {A = ℕ × X} (k, x) n = cc in sym same ∙ ap (λ j. (j, x)) (omega arith)))
  numbered_at k (x ∷ xs) (suc i) n h =
      let rest = numbered_at (k + 1) xs i n h in (rest.0, rest.1, rest.2 ∙ ap (λ j. (j, rest.0)) (omega arith))

  pub length-numbered : (k : ℕ) (xs : List X) → length (enumerate_from k xs) ≡ length xs
  length-numbered k [] = refl
  length-numbered k (x ∷ xs) = ap suc (length-numbered (k + 1) xs)

module _ {X Y : Type 0} (f : X → Y) where
  pub mapped_at : (xs : List X) (i : ℕ) (y : Y) → slice_get (map f xs) i ≡ Some y → (x : X) × (slice_get xs i ≡ Some x) × (f x ≡ y)
  mapped_at [] i y h = absurd (cc)
  mapped_at (x ∷ xs) zero y h = (x, refl, cc)
  mapped_at (x ∷ xs) (suc i) y h = mapped_at xs i y h

  pub length-mapped : (xs : List X) → length (map f xs) ≡ length xs
  length-mapped [] = refl
  length-mapped (x ∷ xs) = ap suc (length-mapped xs)
