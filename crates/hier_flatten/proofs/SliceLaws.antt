-- The first element of a slice and those after it, as a pattern takes them.
use Rattle.std.proofs.Common.{◌≡◌, ◌≢◌, refl, ℕ, zero, suc, ◌-◌, ◌<◌, ◌≤◌, List, [], ◌∷◌, ◌++◌, length, map, take, drop, get_or, set, Some, sym, ap, ◌∙◌, arith, inl, inr}
use Rattle.std.specs.List.{slice_get}
use Rattle.std.proofs.lemmas.List.{append_assoc, take_all}
use Rattle.std.proofs.lemmas.Option.{slice_get_cases}

abbrev pub rest_of : {X : Type 0} → List X → List X
rest_of xs = take (length xs - 1) (drop 1 xs)

pub first_and_rest : {X : Type 0} (xs : List X) (d x : X) → 1 ≤ length xs → x ≡ get_or xs 0 d → xs ≡ x ∷ rest_of xs
first_and_rest [] d x h e = absurd (omega (arith, h))
first_and_rest (y ∷ xs) d x h e =
    let same : x ≡ y = e in
    ap (λ z. z ∷ xs) (sym same) ∙ ap (λ t. x ∷ t) (sym (take_all (length (y ∷ xs) - 1) xs (omega arith)))

-- a list that is made item by item
pub map_turn : {X Y : Type 0} (f : X → Y) (rest : List X) (d x : X) (y : Y) (old new whole : List Y) → 1 ≤ length rest → x ≡ get_or rest 0 d
    → y ≡ f x → new ≡ old ++ y ∷ [] → old ++ map f rest ≡ whole → new ++ map f (rest_of rest) ≡ whole
map_turn f rest d x y old new whole some is made more e =
    ap (λ l. l ++ map f (rest_of rest)) more
    ∙ (append_assoc old (y ∷ []) (map f (rest_of rest))
    ∙ (ap (λ z. old ++ z ∷ map f (rest_of rest)) made
    ∙ (ap (λ r. old ++ map f r) (sym (first_and_rest rest d x some is)) ∙ e)))

pub nothing_left : {X : Type 0} (xs : List X) → length xs < 1 → xs ≡ []
nothing_left [] h = refl
nothing_left (x ∷ xs) h = absurd (omega (arith, h))

-- an element within a list
pub element_at : {X : Type 0} (xs : List X) (i : ℕ) → i < length xs → (x : X) × (slice_get xs i ≡ Some x)
element_at {X} xs i h =
    elim ((slice_get_cases xs i).1) [
      | inl found ↦ (found.0, found.2)
      | inr past ↦ absurd (omega (arith, past.0))
    ]

pub get_set_other : {X : Type 0} (xs : List X) (i j : ℕ) (x : X) → j ≢ i → slice_get (set xs i x) j ≡ slice_get xs j
get_set_other [] i j x ne = refl
get_set_other (y ∷ ys) zero zero x ne = absurd (ne refl)
get_set_other (y ∷ ys) zero (suc j) x ne = refl
get_set_other (y ∷ ys) (suc i) zero x ne = refl
get_set_other (y ∷ ys) (suc i) (suc j) x ne = get_set_other ys i j x (λ e. ne (ap suc e))
