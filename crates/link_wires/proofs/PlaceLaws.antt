-- Names that have been entered.
use Rattle.std.proofs.Common.{◌≡◌, ℕ, suc, ◌+◌, ◌<◌, ◌≤◌, Bool, true, false, cond, eqb, List, [], ◌∷◌, ◌++◌, length, fold, refl, ap, ◌∙◌, arith, inl, inr, length-append}
use Rattle.std.specs.Prelude.{not, ◌||◌}
use Rattle.std.specs.List.{All, position_or_len, list_any}
use Rattle.std.specs.Str.{bytes_eq}
use Rattle.std.proofs.lemmas.Bool.{cases_lt, eq-eqb, ne_eqb, false≢true}
use Rattle.std.proofs.lemmas.List.Elements.{All-cons}
use Rattle.std.proofs.lemmas.List.Sums.{prefix_len-le-length}
use Rattle.std.proofs.lemmas.List.Folds.{position_or_len_push}
use Rattle.std.proofs.lemmas.Slice.Eq.{bytes_eq-Decides}
use Rattle.name_numbers.specs.Names.{Text, has_name, number_of, with_name}

-- ---- one more at the end
length-push : {X : Type 0} (xs : List X) (y : X) → length (xs ++ y ∷ []) ≡ length xs + 1
length-push xs y = length-append xs (y ∷ [])

module _ {X : Type 0} (p : X → Bool) (xs : List X) (y : X) where
  kept_number : position_or_len p xs < length xs → position_or_len p (xs ++ y ∷ []) ≡ position_or_len p xs
  kept_number lt =
      let apart : eqb (position_or_len p xs) (length xs) ≡ false = ne_eqb (position_or_len p xs) (length xs) (λ e. absurd (omega (arith, e, lt))) in
      position_or_len_push p xs y ∙ ap (λ b. cond b (length xs + cond (p y) 0 1) (position_or_len p xs)) apart

  new_number : position_or_len p xs ≡ length xs → position_or_len p (xs ++ y ∷ []) ≡ length xs + cond (p y) 0 1
  new_number e =
      let same : eqb (position_or_len p xs) (length xs) ≡ true = eq-eqb (position_or_len p xs) (length xs) e in
      position_or_len_push p xs y ∙ ap (λ b. cond b (length xs + cond (p y) 0 1) (position_or_len p xs)) same

same_text : (a b : Text) → a ≡ b → bytes_eq a b ≡ true
same_text a b e = (bytes_eq-Decides a b).1 e

-- ---- the nodes of a wire
abbrev pub IsKnown : Text → List Text → Type 0
IsKnown x nodes = number_of x nodes < length nodes

any_by : (b r : Bool) (m n : ℕ) → (b || r) ≡ true → (r ≡ true → m < n) → cond (not b) (1 + m) 0 < suc n
any_by true r m n h rest = omega arith
any_by false r m n h rest = let lt = rest h in omega (arith, lt)

any_place : {X : Type 0} (p : X → Bool) (xs : List X) → list_any p xs ≡ true → position_or_len p xs < length xs
any_place p [] h = absurd (false≢true h)
any_place p (x ∷ xs) h = any_by (p x) (list_any p xs) (position_or_len p xs) (length xs) h (any_place p xs)

push_known : (x y : Text) (nodes : List Text) → IsKnown x nodes → IsKnown x (nodes ++ y ∷ [])
push_known x y nodes h =
    let e = kept_number (bytes_eq x) nodes y h in
    let len = length-push nodes y in
    omega (arith, h, e, len)

pub with_known : (x y : Text) (nodes : List Text) → IsKnown x nodes → IsKnown x (with_name y nodes)
with_known x y nodes h = by (has_name y nodes)
  where
    by : (b : Bool) → IsKnown x (cond b nodes (nodes ++ y ∷ []))
    by true = h
    by false = push_known x y nodes h

pushed_known : (x : Text) (nodes : List Text) → IsKnown x (nodes ++ x ∷ [])
pushed_known x nodes =
    let len = length-push nodes x in
    elim (cases_lt (number_of x nodes) (length nodes)) [
      | inl lt ↦ push_known x x nodes lt
      | inr past ↦
          let most = prefix_len-le-length (λ y. not (bytes_eq x y)) nodes in
          let e = new_number (bytes_eq x) nodes x (omega (arith, past, most)) in
          let number : number_of x (nodes ++ x ∷ []) ≡ length nodes + 0 = e ∙ ap (λ b. length nodes + cond b 0 1) (same_text x x refl) in
          omega (arith, number, len)
    ]

pub with_enters : (x : Text) (nodes : List Text) → IsKnown x (with_name x nodes)
with_enters x nodes = by (has_name x nodes) refl
  where
    by : (b : Bool) → has_name x nodes ≡ b → IsKnown x (cond b nodes (nodes ++ x ∷ []))
    by true e = any_place (bytes_eq x) nodes e
    by false e = pushed_known x nodes

abbrev pub entered : List Text → List Text → List Text
entered nodes names = fold (λ ns name. with_name name ns) nodes names

pub fold_known : (x : Text) (names nodes : List Text) → IsKnown x nodes → IsKnown x (entered nodes names)
fold_known x [] nodes h = h
fold_known x (y ∷ names) nodes h = fold_known x names (with_name y nodes) (with_known x y nodes h)

pub fold_enters : (names nodes : List Text) → All (λ x. IsKnown x (entered nodes names)) names
fold_enters [] nodes = λ i d lt. absurd (omega (arith, lt))
fold_enters (y ∷ names) nodes = All-cons (λ x. IsKnown x (entered nodes (y ∷ names))) y names (fold_known y names (with_name y nodes) (with_enters y nodes)) (fold_enters names (with_name y nodes))

grows_by : (b : Bool) (y : Text) (nodes : List Text) → length nodes ≤ length (cond b nodes (nodes ++ y ∷ []))
grows_by true y nodes = omega arith
grows_by false y nodes = let len = length-push nodes y in omega (arith, len)

pub fold_grows : (names nodes : List Text) → length nodes ≤ length (entered nodes names)
fold_grows [] nodes = omega arith
fold_grows (y ∷ names) nodes =
    let one : length nodes ≤ length (with_name y nodes) = grows_by (has_name y nodes) y nodes in
    let rest = fold_grows names (with_name y nodes) in
    omega (arith, one, rest)
