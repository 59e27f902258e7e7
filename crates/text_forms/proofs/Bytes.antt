-- Names by their bytes, and what holds of each item of a list.
use Rattle.std.specs.Prelude.{◌≡◌, refl, ℕ, zero, suc, ◌+◌, ◌<◌, ◌≤◌, Bool, true, false, List, [], ◌∷◌, ◌++◌, length, take, drop, Some}
use Rattle.std.specs.Char.{is_ascii_graphic}
use Rattle.std.specs.List.{AllByRecursion, prefix_len, slice_get}
use Rattle.std.proofs.Common.{cond}
use Rattle.std.proofs.Math.Numerals.{one-add}
use Rattle.std.proofs.lemmas.Bool.{and_parts, leb-true}
use Rattle.std.proofs.lemmas.List.Elements.{All-from_recursion}
use Rattle.xt_model.specs.Names.{IsName}

abbrev pub IsGraphic : ℕ → Type 0
IsGraphic b = is_ascii_graphic b ≡ true

-- printable bytes other than a space
abbrev pub AreGraphic : List ℕ → Type 0
AreGraphic bytes = AllByRecursion IsGraphic bytes

-- ---- each item of a list
module _ {X : Type 0} (P : X → Type 0) where
  pub each_of_all : ((x : X) → P x) → (xs : List X) → AllByRecursion P xs
  each_of_all f [] = tt
  each_of_all f (x ∷ xs) = (f x, each_of_all f xs)

  pub each-append : (xs ys : List X) → AllByRecursion P xs → AllByRecursion P ys → AllByRecursion P (xs ++ ys)
  each-append [] ys a b = b
  each-append (x ∷ xs) ys a b = (a.0, each-append xs ys a.1 b)

  pub each_push : (xs : List X) (x : X) → AllByRecursion P xs → P x → AllByRecursion P (xs ++ x ∷ [])
  each_push xs x a p = each-append xs (x ∷ []) a (p, tt)

  pub each-drop : (n : ℕ) (xs : List X) → AllByRecursion P xs → AllByRecursion P (drop n xs)
  each-drop zero xs a = a
  each-drop (suc n) [] a = tt
  each-drop (suc n) (x ∷ xs) a = each-drop n xs a.1

  pub each-weaker : (Q : X → Type 0) → ((x : X) → P x → Q x) → (xs : List X) → AllByRecursion P xs → AllByRecursion Q xs
  each-weaker Q f [] a = tt
  each-weaker Q f (x ∷ xs) a = (f x a.0, each-weaker Q f xs a.1)

  pub each_at : (xs : List X) (i : ℕ) (x : X) → AllByRecursion P xs → slice_get xs i ≡ Some x → P x
  each_at [] i x a h = absurd (cc)
  each_at (y ∷ xs) zero x a h = let e : y ≡ x = cc in rw e at a.0
  each_at (y ∷ xs) (suc i) x a h = each_at xs i x a.1 h

module _ {X : Type 0} (p : X → Bool) where
  front_by : (x : X) (xs : List X) (b : Bool) → p x ≡ b → AllByRecursion (λ y. p y ≡ true) (take (prefix_len p xs) xs)
      → AllByRecursion (λ y. p y ≡ true) (take (cond b (1 + prefix_len p xs) 0) (x ∷ xs))
  front_by x xs true e rest = rw (one-add (prefix_len p xs)) (e, rest)
  front_by x xs false e rest = tt

  -- what passes a test from the front on
  pub front_passes : (xs : List X) → AllByRecursion (λ x. p x ≡ true) (take (prefix_len p xs) xs)
  front_passes [] = tt
  front_passes (x ∷ xs) = front_by x xs (p x) refl (front_passes xs)

-- ---- names
in_range : (b : ℕ) → IsGraphic b → (33 ≤ b) × (b ≤ 126)
in_range b h = let parts = and_parts _ _ h in (leb-true 33 b parts.0, leb-true b 126 parts.1)

pub name_is : (bytes : List ℕ) → 0 < length bytes → length bytes ≤ 2049 → AreGraphic bytes → IsName bytes
name_is bytes some short graphic = record {
  some = some;
  short = short;
  printable = All-from_recursion (λ b. (33 ≤ b) × (b ≤ 126)) bytes (each-weaker IsGraphic (λ b. (33 ≤ b) × (b ≤ 126)) in_range bytes graphic);
}
