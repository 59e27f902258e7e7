-- What holds of an element of a list, of lists that are put together, mapped and filtered.
use Rattle.std.proofs.Common.{suc, ◌⊎◌, inl, inr, refl, Bool, true, false, List, [], ◌∷◌, ◌++◌, map, arith}
use Rattle.std.specs.Prelude.{IsTrue, if◌then◌else◌}
use Rattle.std.specs.List.{Any, filter}

-- P holds of an element of the list, by recursion
abbrev pub Has : {X : Type 0} → (X → Type 0) → List X → Type 0
Has {X} P [] = ⊥
Has {X} P (x ∷ xs) = P x ⊎ Has P xs

pub has_left : {X : Type 0} (P : X → Type 0) (xs ys : List X) → Has P xs → Has P (xs ++ ys)
has_left P [] ys h = absurd h
has_left P (x ∷ xs) ys (inl p) = inl p
has_left P (x ∷ xs) ys (inr h) = inr (has_left P xs ys h)

pub has_right : {X : Type 0} (P : X → Type 0) (xs ys : List X) → Has P ys → Has P (xs ++ ys)
has_right P [] ys h = h
has_right P (x ∷ xs) ys h = inr (has_right P xs ys h)

pub has_mapped : {X Y : Type 0} (f : X → Y) (P : Y → Type 0) (xs : List X) → Has (λ x. P (f x)) xs → Has P (map f xs)
has_mapped f P [] h = absurd h
has_mapped f P (x ∷ xs) (inl p) = inl p
has_mapped f P (x ∷ xs) (inr h) = inr (has_mapped f P xs h)

pub any_from_has : {X : Type 0} (P : X → Type 0) (xs : List X) → Has P xs → Any P xs
any_from_has P [] h = absurd h
any_from_has P (x ∷ xs) (inl p) = (0, x, omega arith, refl, p)
any_from_has P (x ∷ xs) (inr h) = let r = any_from_has P xs h in (suc r.0, r.1, omega (arith, r.2), r.3, r.4)

kept : {X : Type 0} (P : X → Type 0) (t : Bool) (x : X) (xs : List X) → IsTrue t → P x → Has P (if t then x ∷ xs else xs)
kept P true x xs t h = inl h
kept P false x xs t h = absurd (cc)

kept_after : {X : Type 0} (P : X → Type 0) (t : Bool) (x : X) (xs : List X) → Has P xs → Has P (if t then x ∷ xs else xs)
kept_after P true x xs h = inr h
kept_after P false x xs h = h

-- an element that passes the test is not left out
pub has_filtered : {X : Type 0} (P : X → Type 0) (p : X → Bool) (xs : List X) → ((x : X) → P x → IsTrue (p x)) → Has P xs → Has P (filter p xs)
has_filtered P p [] passes h = absurd h
has_filtered P p (x ∷ xs) passes (inl h) = kept P (p x) x (filter p xs) (passes x h) h
has_filtered P p (x ∷ xs) passes (inr h) = kept_after P (p x) x (filter p xs) (has_filtered P p xs passes h)
