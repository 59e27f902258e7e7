-- The places of the elements that pass a test, and lists of rising numbers.
use Rattle.std.proofs.Common.{◌≡◌, ℕ, zero, suc, ◌+◌, ◌<◌, ◌≤◌, Bool, true, false, cond, List, [], ◌∷◌, ◌++◌, length, map, take, get_or, Some, refl, ap, sym, ◌∙◌, subst, arith, inl, inr, ◌⊎◌, append_assoc, eqb}
use Rattle.std.specs.Prelude.{filter, filter_map, flat_map}
use Rattle.std.specs.List.{Contains, cons_option, slice_get, dedup}
use Rattle.std.specs.Ordering.{nat_cmp}
use Rattle.std.specs.List.Sorted.{IsPermutation, IsSorted, IsStrictlyIncreasing}
use Rattle.std.proofs.lemmas.List.{length_push, length-take, take_more}
use Rattle.std.proofs.lemmas.List.Kept.{Contains-dedup_nat, Contains-from_dedup}
use Rattle.std.proofs.lemmas.List.Sorted.{Contains-permutation, IsPermutation-sym}
use Rattle.std.proofs.lemmas.Map.Keys.{IsStrictlyIncreasing-dedup}
use Rattle.std.proofs.lemmas.Option.{same_Some, slice_get_within}
use Rattle.link_pins.specs.Related.{places_of}

-- ---- members of lists of numbers

abbrev pub Has : List ℕ → ℕ → Type 0
Has [] m = ⊥
Has (x ∷ xs) m = (x ≡ m) ⊎ Has xs m

pub to_has : (xs : List ℕ) (m : ℕ) → Contains xs m → Has xs m
to_has [] m c = absurd (omega (arith, c.1))
to_has (x ∷ xs) m c = by c.0 c.1 c.2 (λ k lt e. to_has xs m (k, lt, e))
  where
    by : (k : ℕ) → k < length (x ∷ xs) → get_or (x ∷ xs) k m ≡ m → ((j : ℕ) → j < length xs → get_or xs j m ≡ m → Has xs m) → Has (x ∷ xs) m
    by zero lt e later = inl e
    by (suc k) lt e later = inr (later k (omega (arith, lt)) e)

pub from_has : (xs : List ℕ) (m : ℕ) → Has xs m → Contains xs m
from_has [] m h = absurd h
from_has (x ∷ xs) m (inl e) = (0, omega arith, e)
from_has (x ∷ xs) m (inr h) =
    let c = from_has xs m h in
    (suc c.0, omega (arith, c.1), c.2)

pub has_at : (xs : List ℕ) (i m : ℕ) → slice_get xs i ≡ Some m → Has xs m
has_at [] i m h = absurd (omega (arith, slice_get_within [] i m h))
has_at (x ∷ xs) zero m h = inl (same_Some x m h)
has_at (x ∷ xs) (suc i) m h = inr (has_at xs i m h)

pub has_place : (xs : List ℕ) (m : ℕ) → Has xs m → (i : ℕ) × (slice_get xs i ≡ Some m)
has_place [] m h = absurd h
has_place (x ∷ xs) m (inl e) = (0, ap Some e)
has_place (x ∷ xs) m (inr h) =
    let r = has_place xs m h in
    (suc r.0, r.1)

pub has_left : (xs ys : List ℕ) (m : ℕ) → Has xs m → Has (xs ++ ys) m
has_left [] ys m h = absurd h
has_left (x ∷ xs) ys m (inl e) = inl e
has_left (x ∷ xs) ys m (inr h) = inr (has_left xs ys m h)

pub has_right : (xs ys : List ℕ) (m : ℕ) → Has ys m → Has (xs ++ ys) m
has_right [] ys m h = h
has_right (x ∷ xs) ys m h = inr (has_right xs ys m h)

pub has_either : (xs ys : List ℕ) (m : ℕ) → Has (xs ++ ys) m → Has xs m ⊎ Has ys m
has_either [] ys m h = inr h
has_either (x ∷ xs) ys m (inl e) = inl (inl e)
has_either (x ∷ xs) ys m (inr h) = elim (has_either xs ys m h) [
  | inl a ↦ inl (inr a)
  | inr b ↦ inr b
]

-- a member of lists that are made of numbers, and where it is from
pub record IsFrom (f : ℕ → List ℕ) (js : List ℕ) (m : ℕ) : Type 0 where
  pub from : ℕ
  pub is : Has js from
  pub has : Has (f from) m

pub from_flat : (f : ℕ → List ℕ) (js : List ℕ) (m : ℕ) → Has (flat_map f js) m → IsFrom f js m
from_flat f [] m h = absurd h
from_flat f (j ∷ js) m h = elim (has_either (f j) (flat_map f js) m h) [
  | inl a ↦ record { from = j; is = inl refl; has = a }
  | inr b ↦
      let r = from_flat f js m b in
      record { from = r.from; is = inr r.is; has = r.has }
]

pub to_flat : (f : ℕ → List ℕ) (js : List ℕ) (j m : ℕ) → Has js j → Has (f j) m → Has (flat_map f js) m
to_flat f [] j m h k = absurd h
to_flat f (x ∷ xs) j m (inl e) k = has_left (f x) (flat_map f xs) m (subst (λ n. Has (f n) m) (sym e) k)
to_flat f (x ∷ xs) j m (inr h) k = has_right (f x) (flat_map f xs) m (to_flat f xs j m h k)

-- ---- rising numbers

-- numbers from a least one on, each greater than the one before it
abbrev pub Rises : ℕ → List ℕ → Type 0
Rises n [] = Unit {0}
Rises n (x ∷ xs) = (n ≤ x) × Rises (suc x) xs

rises_from : (m n : ℕ) (xs : List ℕ) → m ≤ n → Rises n xs → Rises m xs
rises_from m n [] le r = tt
rises_from m n (x ∷ xs) le r = (omega (arith, le, r.0), r.1)

least : (n : ℕ) (xs : List ℕ) (m : ℕ) → Rises n xs → Has xs m → n ≤ m
least n [] m r h = absurd h
least n (x ∷ xs) m r (inl e) = omega (arith, r.0, e)
least n (x ∷ xs) m r (inr h) = omega (arith, r.0, least (suc x) xs m r.1 h)

pub rises : (n : ℕ) (xs : List ℕ) → IsStrictlyIncreasing xs → (0 < length xs → n ≤ get_or xs 0 0) → Rises n xs
rises n [] up first = tt
rises n (x ∷ xs) up first = (
  first (omega arith),
  rises (suc x) xs
      (λ k lt. subst (λ j. get_or (x ∷ xs) (suc k) 0 < get_or (x ∷ xs) j 0) {x = suc k + 1} {y = suc (k + 1)} (omega arith) (up (suc k) (omega (arith, lt))))
      (λ some. let next = up 0 (omega (arith, some)) in omega (arith, next)),
)

after : (x m y : ℕ) (ys : List ℕ) → x ≡ y → suc x ≤ m → (y ≡ m) ⊎ Has ys m → Has ys m
after x m y ys same lt (inl e) = absurd (omega (arith, same, lt, e))
after x m y ys same lt (inr h) = h

-- rising numbers with the same members are the same
pub same_rising : (n : ℕ) (xs ys : List ℕ) → Rises n xs → Rises n ys → ((m : ℕ) → Has xs m → Has ys m) → ((m : ℕ) → Has ys m → Has xs m) → xs ≡ ys
same_rising n [] [] a b f g = refl
same_rising n [] (y ∷ ys) a b f g = absurd (g y (inl refl))
same_rising n (x ∷ xs) [] a b f g = absurd (f x (inl refl))
same_rising n (x ∷ xs) (y ∷ ys) a b f g =
    let same : x ≡ y = one (f x (inl refl)) (g y (inl refl)) in
    let rest : Rises (suc x) ys = subst (λ k. Rises (suc k) ys) (sym same) b.1 in
    ap (λ k. k ∷ xs) same
    ∙ ap (λ l. y ∷ l) (same_rising (suc x) xs ys a.1 rest
    (λ m h. after x m y ys same (least (suc x) xs m a.1 h) (f m (inr h)))
    (λ m h. after y m x xs (sym same) (least (suc y) ys m b.1 h) (g m (inr h))))
  where
    one : (y ≡ x) ⊎ Has ys x → (x ≡ y) ⊎ Has xs y → x ≡ y
    one (inl e) k = sym e
    one (inr h) (inl e) = e
    one (inr h) (inr k) = absurd (omega (arith, least (suc y) ys x b.1 h, least (suc x) xs y a.1 k))

-- numbers that were sorted, each kept once
pub record AreSorted (xs ys : List ℕ) : Type 0 where
  pub rises : Rises 0 ys
  pub kept : (m : ℕ) → Has xs m → Has ys m
  pub from : (m : ℕ) → Has ys m → Has xs m

pub sorted_once : (xs sorted ys : List ℕ) → IsPermutation xs sorted → IsSorted nat_cmp sorted → ys ≡ dedup eqb sorted → AreSorted xs ys
sorted_once xs sorted ys moved up is =
    subst (AreSorted xs) (sym is) (record {
      rises = rises 0 (dedup eqb sorted) (IsStrictlyIncreasing-dedup sorted up) (λ some. omega arith);
      kept = λ m h. to_has (dedup eqb sorted) m (Contains-dedup_nat sorted m (Contains-permutation xs sorted m moved (from_has xs m h)));
      from = λ m h. to_has xs m (Contains-permutation sorted xs m (IsPermutation-sym xs sorted moved) (Contains-from_dedup eqb sorted m (from_has (dedup eqb sorted) m h)));
    })

-- ---- the places of elements that pass a test

pub record PassesAt {X : Type 0} (t : X → Bool) (xs : List X) (i : ℕ) : Type 0 where
  pub item : X
  pub at : slice_get xs i ≡ Some item
  pub passes : t item ≡ true

module _ {X : Type 0} (t : X → Bool) where
  pub places_rise : (n : ℕ) (xs : List X) → Rises n (places_of t n xs)
  places_rise n [] = tt
  places_rise n (x ∷ xs) = by (t x) (places_rise (suc n) xs)
    where
      by : (b : Bool) → Rises (suc n) (places_of t (suc n) xs) → Rises n (cond b (n ∷ places_of t (suc n) xs) (places_of t (suc n) xs))
      by true r = (omega arith, r)
      by false r = rises_from n (suc n) (places_of t (suc n) xs) (omega arith) r

  pub place_passes : (n : ℕ) (xs : List X) (m : ℕ) → Has (places_of t n xs) m → (i : ℕ) × (m ≡ n + i) × PassesAt t xs i
  place_passes n [] m h = absurd h
  place_passes n (x ∷ xs) m h = by (t x) refl h (place_passes (suc n) xs m)
    where
      by : (b : Bool) → t x ≡ b → Has (cond b (n ∷ places_of t (suc n) xs) (places_of t (suc n) xs)) m
          → (Has (places_of t (suc n) xs) m → (i : ℕ) × (m ≡ suc n + i) × PassesAt t xs i) → (i : ℕ) × (m ≡ n + i) × PassesAt t (x ∷ xs) i
      by true e (inl same) later = (0, omega (arith, same), record { item = x; at = refl; passes = e })
      by true e (inr k) later =
          let r = later k in
          (suc r.0, omega (arith, r.1), record { item = r.2.item; at = r.2.at; passes = r.2.passes })
      by false e k later =
          let r = later k in
          (suc r.0, omega (arith, r.1), record { item = r.2.item; at = r.2.at; passes = r.2.passes })

  pub passes_place : (n : ℕ) (xs : List X) (i : ℕ) (x : X) → slice_get xs i ≡ Some x → t x ≡ true → Has (places_of t n xs) (n + i)
  passes_place n [] i x at e = absurd (omega (arith, slice_get_within [] i x at))
  passes_place n (y ∷ ys) zero x at e =
      let same : y ≡ x = same_Some y x at in
      subst (λ b. Has (cond b (n ∷ places_of t (suc n) ys) (places_of t (suc n) ys)) (n + 0)) (sym (ap t same ∙ e)) (inl (omega arith))
  passes_place n (y ∷ ys) (suc i) x at e =
      let next : suc n + i ≡ n + suc i = omega arith in
      by (t y) (subst (Has (places_of t (suc n) ys)) next (passes_place (suc n) ys i x at e))
    where
      by : (b : Bool) → Has (places_of t (suc n) ys) (n + suc i) → Has (cond b (n ∷ places_of t (suc n) ys) (places_of t (suc n) ys)) (n + suc i)
      by true h = inr h
      by false h = h

  -- a place passes where its element does, and only there
  pub all_places : (xs : List X) (js : List ℕ) → Rises 0 js → ((m : ℕ) → Has js m → PassesAt t xs m) → ((m : ℕ) (x : X) → slice_get xs m ≡ Some x → t x ≡ true → Has js m)
      → js ≡ places_of t 0 xs
  all_places xs js up some all =
      same_rising 0 js (places_of t 0 xs) up (places_rise 0 xs)
      (λ m h.
      let p = some m h in
      let next : 0 + m ≡ m = omega arith in
      subst (Has (places_of t 0 xs)) next (passes_place 0 xs m p.item p.at p.passes))
      (λ m h.
      let p = place_passes 0 xs m h in
      let same : p.0 ≡ m = omega (arith, p.1) in
      subst (Has js) same (all p.0 p.2.item p.2.at p.2.passes))

  pub place_at : (xs : List X) (m : ℕ) → Has (places_of t 0 xs) m → PassesAt t xs m
  place_at xs m h =
      let p = place_passes 0 xs m h in
      let same : p.0 ≡ m = omega (arith, p.1) in
      subst (PassesAt t xs) same p.2

  pub place_has : (xs : List X) (m : ℕ) (x : X) → slice_get xs m ≡ Some x → t x ≡ true → Has (places_of t 0 xs) m
  place_has xs m x at e =
      let next : 0 + m ≡ m = omega arith in
      subst (Has (places_of t 0 xs)) next (passes_place 0 xs m x at e)

  at_end : (zs : List X) (x : X) (xs : List X) → slice_get (zs ++ x ∷ xs) (length zs) ≡ Some x
  at_end [] x xs = refl
  at_end (z ∷ zs) x xs = at_end zs x xs

  filtered_from : (zs xs : List X) → filter_map (slice_get (zs ++ xs)) (places_of t (length zs) xs) ≡ filter t xs
  filtered_from zs [] = refl
  filtered_from zs (x ∷ xs) =
      let whole : zs ++ x ∷ xs ≡ (zs ++ x ∷ []) ++ xs = sym (append_assoc zs (x ∷ []) xs) in
      let long : suc (length zs) ≡ length (zs ++ x ∷ []) = omega (arith, length_push zs x) in
      by (t x)
      (ap (λ l. filter_map (slice_get l) (places_of t (suc (length zs)) xs)) whole
      ∙ (ap (λ k. filter_map (slice_get ((zs ++ x ∷ []) ++ xs)) (places_of t k xs)) long ∙ filtered_from (zs ++ x ∷ []) xs))
    where
      by : (b : Bool) → filter_map (slice_get (zs ++ x ∷ xs)) (places_of t (suc (length zs)) xs) ≡ filter t xs
          → filter_map (slice_get (zs ++ x ∷ xs)) (cond b (length zs ∷ places_of t (suc (length zs)) xs) (places_of t (suc (length zs)) xs)) ≡ cond b (x ∷ filter t xs) (filter t xs)
      by true r =
          ap (λ o. cons_option o (filter_map (slice_get (zs ++ x ∷ xs)) (places_of t (suc (length zs)) xs))) (at_end zs x xs) ∙ ap (λ l. x ∷ l) r
      by false r = r

  -- what is at these places are those that pass
  pub filtered : (xs : List X) → filter_map (slice_get xs) (places_of t 0 xs) ≡ filter t xs
  filtered xs = filtered_from [] xs

  place_push : (n : ℕ) (xs : List X) (x : X) → places_of t n (xs ++ x ∷ []) ≡ places_of t n xs ++ cond (t x) ((n + length xs) ∷ []) []
  place_push n [] x =
      let same : n ≡ n + 0 = omega arith in
      ap (λ k. cond (t x) (k ∷ []) []) same
  place_push n (y ∷ ys) x =
      let next : suc n + length ys ≡ n + suc (length ys) = omega arith in
      by (t y) (place_push (suc n) ys x ∙ ap (λ k. places_of t (suc n) ys ++ cond (t x) (k ∷ []) []) next)
    where
      by : (b : Bool) → places_of t (suc n) (ys ++ x ∷ []) ≡ places_of t (suc n) ys ++ cond (t x) ((n + suc (length ys)) ∷ []) []
          → cond b (n ∷ places_of t (suc n) (ys ++ x ∷ [])) (places_of t (suc n) (ys ++ x ∷ []))
          ≡ cond b (n ∷ places_of t (suc n) ys) (places_of t (suc n) ys) ++ cond (t x) ((n + suc (length ys)) ∷ []) []
      by true r = ap (λ l. n ∷ l) r
      by false r = r

  -- the next place
  pub place_next : (xs : List X) (i : ℕ) (d : X) (cur new : List ℕ) → i < length xs → cur ≡ places_of t 0 (take i xs) → new ≡ cur ++ cond (t (get_or xs i d)) (i ∷ []) []
      → new ≡ places_of t 0 (take (i + 1) xs)
  place_next xs i d cur new lt so_far step =
      let long : i ≡ 0 + length (take i xs) = omega (arith, lt, length-take i xs) in
      step
      ∙ (ap (λ l. l ++ cond (t (get_or xs i d)) (i ∷ []) []) so_far
      ∙ (ap (λ k. places_of t 0 (take i xs) ++ cond (t (get_or xs i d)) (k ∷ []) []) long
      ∙ (sym (place_push 0 (take i xs) (get_or xs i d)) ∙ ap (places_of t 0) (sym (take_more xs i d lt)))))

pub places_mapped : {X Y : Type 0} (t : Y → Bool) (f : X → Y) (n : ℕ) (xs : List X) → places_of t n (map f xs) ≡ places_of (λ x. t (f x)) n xs
places_mapped t f n [] = refl
places_mapped t f n (x ∷ xs) = ap (λ l. cond (t (f x)) (n ∷ l) l) (places_mapped t f (suc n) xs)
