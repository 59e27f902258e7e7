-- Sums over the nets below a number, and lists of them.
use Rattle.std.proofs.Common.{◌≡◌, ℕ, zero, suc, ◌+◌, ◌*◌, ◌<◌, ◌≤◌, ◌⊎◌, inl, inr, refl, ◌∙◌, subst, Bool, true, false, List, [], ◌∷◌, ◌++◌, length, get_or, drop, ap, sym, arith}
use Rattle.std.specs.Prelude.{◌≢◌, ◌==◌, if◌then◌else◌, Some}
use Rattle.std.specs.List.{slice_get, sum_by}
use Rattle.std.proofs.lemmas.Bool.{cases_lt, eqb-true, eq-eqb}
use Rattle.std.proofs.lemmas.List.{append-nil, append_assoc, drop_all, drop-append-le, length_push}
use Rattle.std.proofs.lemmas.Option.{get_or_from_slice_get}
use Rattle.std.proofs.lemmas.List.Sums.{sum_by_push}
use Rattle.xt_model.specs.declared.net.Net.{Net}
use Rattle.design_gen.specs.Lists.{each_below}

-- ---- equal numbers
pub true_or_false : (b : Bool) → (b ≡ true) ⊎ (b ≡ false)
true_or_false true = inl refl
true_or_false false = inr refl

pub is_same : (a b : ℕ) → (a == b) ≡ true → a ≡ b
is_same a b h = eqb-true a b h

pub not_same : (a b : ℕ) → (a == b) ≡ false → a ≢ b
not_same a b h e = let k : (a == b) ≡ true = eq-eqb a b e in cc

pub same_itself : (a : ℕ) → (a == a) ≡ true
same_itself a = eq-eqb a a refl

-- ---- sums
pub sum_to : (ℕ → ℕ) → ℕ → ℕ
sum_to g zero = 0
sum_to g (suc n) = sum_to g n + g n

pub sum_to_most : (g h : ℕ → ℕ) (n : ℕ) → ((i : ℕ) → i < n → g i ≤ h i) → sum_to g n ≤ sum_to h n
unfolding sum_to
sum_to_most g h zero k = omega arith
sum_to_most g h (suc n) k = let a = sum_to_most g h n (λ i p. k i (omega arith)) in let b = k n (omega arith) in omega (arith, a, b)

pub sum_to_each : (g : ℕ → ℕ) (n most : ℕ) → ((i : ℕ) → i < n → g i ≤ most) → sum_to g n ≤ most * n
unfolding sum_to
sum_to_each g zero most k = omega arith
sum_to_each g (suc n) most k = let a = sum_to_each g n most (λ i p. k i (omega arith)) in let b = k n (omega arith) in omega (arith, a, b)

pub sum_to_two : (g h : ℕ → ℕ) (n : ℕ) → sum_to (λ i. g i + h i) n ≡ sum_to g n + sum_to h n
unfolding sum_to
sum_to_two g h zero = refl
sum_to_two g h (suc n) = let a = sum_to_two g h n in omega (arith, a)

pub sum_to_times : (c : ℕ) (g : ℕ → ℕ) (n : ℕ) → sum_to (λ i. c * g i) n ≡ c * sum_to g n
unfolding sum_to
sum_to_times c g zero = omega arith
sum_to_times c g (suc n) = let a = sum_to_times c g n in omega (arith, a)

pub sum_to_none : (n : ℕ) → sum_to (λ i. 0) n ≡ 0
unfolding sum_to
sum_to_none zero = refl
sum_to_none (suc n) = let a = sum_to_none n in omega (arith, a)

-- 1 at one number
unfoldable pub hit : ℕ → ℕ → ℕ
hit j n = if j == n then 1 else 0

hit_past : (j n : ℕ) → n < j → hit j n ≡ 0
unfolding hit
hit_past j n h = elim (true_or_false (j == n)) [ inl e ↦ absurd (let k = is_same j n e in omega (arith, k)) | inr e ↦ rw e refl ]

pub hit_most : (j n : ℕ) → hit j n ≤ 1
unfolding hit
hit_most j n = elim (true_or_false (j == n)) [ inl e ↦ rw e (omega arith) | inr e ↦ rw e (omega arith) ]

hit_other : (j n : ℕ) → j < n → hit j n ≡ 0
unfolding hit
hit_other j n h = elim (true_or_false (j == n)) [ inl e ↦ absurd (let k = is_same j n e in omega (arith, k)) | inr e ↦ rw e refl ]

sum_hit_before : (j n : ℕ) → n ≤ j → sum_to (hit j) n ≡ 0
unfolding sum_to
sum_hit_before j zero h = refl
sum_hit_before j (suc n) h = let a = sum_hit_before j n (omega arith) in let b = hit_past j n (omega arith) in omega (arith, a, b)

pub sum_hit : (j n : ℕ) → sum_to (hit j) n ≤ 1
unfolding sum_to
sum_hit j zero = omega arith
sum_hit j (suc n) = elim (cases_lt j n) [
  | inl p ↦ let a = sum_hit j n in let b = hit_other j n p in omega (arith, a, b)
  | inr p ↦ let a = sum_hit_before j n p in let b = hit_most j n in omega (arith, a, b)
]

-- ---- the list of the nets below a number
pub length-each_below : {X : Type 0} (f : ℕ → X) (n : ℕ) → length (each_below f n) ≡ n
length-each_below f zero = refl
length-each_below f (suc n) = let a = length-each_below f n in let b = length_push (each_below f n) (f n) in omega (arith, a, b)

slice_get_first : {X : Type 0} (xs : List X) (y : X) (i : ℕ) → i < length xs → slice_get (xs ++ y ∷ []) i ≡ slice_get xs i
slice_get_first [] y i h = absurd (omega arith)
slice_get_first (x ∷ xs) y zero h = refl
slice_get_first (x ∷ xs) y (suc i) h = slice_get_first xs y i (omega arith)

slice_get_last : {X : Type 0} (xs : List X) (y : X) (i : ℕ) → i ≡ length xs → slice_get (xs ++ y ∷ []) i ≡ Some y
slice_get_last [] y zero h = refl
slice_get_last [] y (suc i) h = absurd (omega arith)
slice_get_last (x ∷ xs) y zero h = absurd (omega arith)
slice_get_last (x ∷ xs) y (suc i) h = slice_get_last xs y i (omega arith)

pub each_there : {X : Type 0} (f : ℕ → X) (n i : ℕ) → i < n → slice_get (each_below f n) i ≡ Some (f i)
each_there f zero i h = absurd (omega arith)
each_there f (suc n) i h = elim (cases_lt i n) [
  | inl p ↦ let l = length-each_below f n in slice_get_first (each_below f n) (f n) i (omega (arith, l)) ∙ each_there f n i p
  | inr p ↦
      let l = length-each_below f n in
      let e : n ≡ i = omega arith in
      let P : ℕ → Type 0 = λ k. slice_get (each_below f n ++ f n ∷ []) i ≡ Some (f k) in
      subst P e (slice_get_last (each_below f n) (f n) i (omega (arith, l)))
]

pub each_at : {X : Type 0} (f : ℕ → X) (n i : ℕ) (d : X) → i < n → get_or (each_below f n) i d ≡ f i
each_at f n i d h = get_or_from_slice_get (each_below f n) i (f i) d (each_there f n i h)

-- the list from a number on
pub each_from_itself : {X : Type 0} (f : ℕ → X) (from : ℕ) → drop from (each_below f from) ≡ []
each_from_itself f from = let l = length-each_below f from in drop_all from (each_below f from) (omega (arith, l))

pub each_from_push : {X : Type 0} (f : ℕ → X) (from n : ℕ) → from ≤ n → drop from (each_below f (n + 1)) ≡ drop from (each_below f n) ++ f n ∷ []
each_from_push f from n h =
    let l = length-each_below f n in
    let k : suc n ≡ n + 1 = omega arith in
    let P : ℕ → Type 0 = λ m. drop from (each_below f m) ≡ drop from (each_below f n) ++ f n ∷ [] in
    subst P k (drop-append-le from (each_below f n) (f n ∷ []) (omega (arith, l)))

-- and what is before and from a number between is all of it
pub each_from_append : {X : Type 0} (f : ℕ → X) (from middle to : ℕ) → from ≤ middle → middle ≤ to → drop from (each_below f middle) ++ drop middle (each_below f to) ≡ drop from (each_below f to)
each_from_append f from middle zero h k =
    let e : zero ≡ middle = omega arith in
    let P : ℕ → Type 0 = λ m. drop from (each_below f m) ++ drop m (each_below f zero) ≡ drop from (each_below f zero) in
    subst P e (append-nil (drop from (each_below f zero)))
each_from_append f from middle (suc n) h k = elim (cases_lt n middle) [
  | inl p ↦
      let e : suc n ≡ middle = omega arith in
      let P : ℕ → Type 0 = λ m. drop from (each_below f m) ++ drop m (each_below f (suc n)) ≡ drop from (each_below f (suc n)) in
      subst P e (ap (λ xs. drop from (each_below f (suc n)) ++ xs) (each_from_itself f (suc n)) ∙ append-nil (drop from (each_below f (suc n))))
  | inr p ↦
      let l = length-each_below f n in
      let late = drop-append-le middle (each_below f n) (f n ∷ []) (omega (arith, l)) in
      let early = drop-append-le from (each_below f n) (f n ∷ []) (omega (arith, l)) in
      ap (λ xs. drop from (each_below f middle) ++ xs) late
      ∙ (sym (append_assoc (drop from (each_below f middle)) (drop middle (each_below f n)) (f n ∷ []))
      ∙ (ap (λ xs. xs ++ f n ∷ []) (each_from_append f from middle n h p) ∙ sym early))
]

pub sum_by_nets : (f : Net → ℕ) (net : ℕ → Net) (n : ℕ) → sum_by f (each_below net n) ≡ sum_to (λ i. f (net i)) n
unfolding sum_to
sum_by_nets f net zero = refl
sum_by_nets f net (suc n) = let a = sum_by_nets f net n in let b = sum_by_push f (each_below net n) (net n) in omega (arith, a, b)
