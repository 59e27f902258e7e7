-- The cell of an axis that holds a number.
use Rattle.std.proofs.Common.{◌≡◌, ℕ, zero, suc, ◌+◌, ◌-◌, ◌<◌, ◌≤◌, inl, inr, refl, sym, ◌∙◌, ap, subst, Bool, true, false, List, length, take, take_all, drop, get_or, count_by, ℤ, pos, ◌≤ℤ◌, ◌<ℤ◌, int_le, int_lt, arith}
use Rattle.std.proofs.lemmas.Bool.{cases_lt}
use Rattle.std.proofs.lemmas.Int.{ints, by_lt_z}
use Rattle.std.proofs.lemmas.List.{get_or-take, get_or_default, length-take, length-drop}
use Rattle.std.proofs.lemmas.List.Sums.{count_by_more_yes, count_by_more_no}
use Rattle.std.proofs.lemmas.Grind.{get_or_after_one}
use Rattle.std.specs.List.Sorted.{IsPartitionedBy}
use Rattle.xt_model.specs.Tables.{IsIndex}
use Rattle.xt_meaning.specs.Lookup.{inner_lines}

-- ---- counting what passes a test
-- where the first i elements pass and the others do not, i pass
count_front : (p : ℤ → Bool) (xs : List ℤ) (i : ℕ) → i ≤ length xs → ((j : ℕ) → j < i → p (get_or xs j (pos 0)) ≡ true) → count_by p (take i xs) ≡ i
count_front p xs zero h passes = refl
count_front p xs (suc i) h passes =
    let k : count_by p (take i xs) ≡ i = count_front p xs i (omega arith) (λ j q. passes j (omega arith)) in
    let P : ℕ → Type 0 = λ n. count_by p (take n xs) ≡ n in
    let e : i + 1 ≡ suc i = omega arith in
    subst P e (count_by_more_yes p xs i (pos 0) (omega arith) (passes i (omega arith)) ∙ ap (λ n. n + 1) k)

count_more : (p : ℤ → Bool) (xs : List ℤ) (i k : ℕ) → i + k ≤ length xs → ((j : ℕ) → i ≤ j → j < length xs → p (get_or xs j (pos 0)) ≡ false) → count_by p (take (i + k) xs) ≡ count_by p (take i xs)
count_more p xs i zero h fails = ap (λ n. count_by p (take n xs)) (omega arith)
count_more p xs i (suc k) h fails =
    let e : (i + k) + 1 ≡ i + suc k = omega arith in
    let P : ℕ → Type 0 = λ n. count_by p (take n xs) ≡ count_by p (take i xs) in
    subst P e (count_by_more_no p xs (i + k) (pos 0) (omega arith) (fails (i + k) (omega arith) (omega arith)) ∙ count_more p xs i k (omega arith) fails)

pub count_split : (p : ℤ → Bool) (xs : List ℤ) (i : ℕ) → i ≤ length xs → ((j : ℕ) → j < i → p (get_or xs j (pos 0)) ≡ true)
    → ((j : ℕ) → i ≤ j → j < length xs → p (get_or xs j (pos 0)) ≡ false) → count_by p xs ≡ i
count_split p xs i h passes fails =
    let e : i + (length xs - i) ≡ length xs = omega arith in
    let P : ℕ → Type 0 = λ n. count_by p (take n xs) ≡ count_by p (take i xs) in
    ap (count_by p) (sym (take_all (length xs) xs (omega arith))) ∙ (subst P e (count_more p xs i (length xs - i) (omega arith) fails) ∙ count_front p xs i h passes)

-- ---- tests
le_passes : (a b : ℤ) → a ≤ℤ b → int_le a b ≡ true
le_passes a b h = grind (arith, ints)

le_fails : (a b : ℤ) → b <ℤ a → int_le a b ≡ false
le_fails a b h = grind (arith, ints)

-- ---- grid lines
-- a later line is no lower
pub rises : (xs : List ℤ) → IsIndex xs → (i j : ℕ) → i ≤ j → j < length xs → get_or xs i (pos 0) ≤ℤ get_or xs j (pos 0)
rises xs ok i j h k = elim (cases_lt i j) [
  | inl p ↦ let r : get_or xs i (pos 0) <ℤ get_or xs j (pos 0) = ok.rising.each i j p k in omega (arith, ints)
  | inr p ↦ let e : i ≡ j = omega arith in let P : ℕ → Type 0 = λ n. get_or xs i (pos 0) ≤ℤ get_or xs n (pos 0) in subst P e (omega (arith, ints))
]

inner_at : (xs : List ℤ) (j : ℕ) → j + 2 < length xs → get_or (inner_lines xs) j (pos 0) ≡ get_or xs (j + 1) (pos 0)
inner_at xs j h = get_or-take (length xs - 2) (drop 1 xs) j (pos 0) (omega arith) ∙ (get_or_after_one xs j (pos 0) ∙ ap (λ n. get_or xs n (pos 0)) (omega arith))

inner_many : (xs : List ℤ) → length (inner_lines xs) ≡ length xs - 2
inner_many xs = let a = length-take (length xs - 2) (drop 1 xs) in let b = length-drop 1 xs in omega arith

-- y lies in cell number i, at or above its first line and below its second; the first cell has what is below it too,
-- the last what is above it
pub record IsCell (xs : List ℤ) (y : ℤ) (i : ℕ) : Type 0 where
  pub there : i + 1 < length xs
  pub low : 0 < i → get_or xs i (pos 0) ≤ℤ y
  pub high : i + 2 < length xs → y <ℤ get_or xs (i + 1) (pos 0)

-- as many inner lines lie at or below y as cells lie before its own
pub cell_counts : (xs : List ℤ) (y : ℤ) (i : ℕ) → IsIndex xs → IsCell xs y i → count_by (λ g. int_le g y) (inner_lines xs) ≡ i
cell_counts xs y i ok cell =
    let many = inner_many xs in let there = cell.there in
    count_split (λ g. int_le g y) (inner_lines xs) i (omega arith)
    (λ j h. let P : ℤ → Type 0 = λ g. int_le g y ≡ true in
    subst P (sym (inner_at xs j (omega arith)))
    (let a : get_or xs (j + 1) (pos 0) ≤ℤ get_or xs i (pos 0) = rises xs ok (j + 1) i (omega arith) (omega arith) in
    let b : get_or xs i (pos 0) ≤ℤ y = cell.low (omega arith) in
    le_passes (get_or xs (j + 1) (pos 0)) y (omega (arith, ints))))
    (λ j h k. let P : ℤ → Type 0 = λ g. int_le g y ≡ false in
    subst P (sym (inner_at xs j (omega arith)))
    (let a : get_or xs (i + 1) (pos 0) ≤ℤ get_or xs (j + 1) (pos 0) = rises xs ok (i + 1) (j + 1) (omega arith) (omega arith) in
    let b : y <ℤ get_or xs (i + 1) (pos 0) = cell.high (omega arith) in
    le_fails (get_or xs (j + 1) (pos 0)) y (omega (arith, ints))))

-- each number lies in a cell
find_cell : (xs : List ℤ) (y : ℤ) (k : ℕ) → k + 1 < length xs → (k + 2 < length xs → y <ℤ get_or xs (k + 1) (pos 0)) → (i : ℕ) × IsCell xs y i
find_cell xs y zero h below = (0, record { there = h; low = λ p. absurd (omega arith); high = below })
find_cell xs y (suc k) h below =
    by_lt_z {P = (i : ℕ) × IsCell xs y i} y (get_or xs (suc k) (pos 0))
    (λ p. find_cell xs y k (omega arith) (λ q. let e : suc k ≡ k + 1 = omega arith in let P : ℕ → Type 0 = λ n. y <ℤ get_or xs n (pos 0) in subst P e p))
    (λ p. (suc k, record { there = h; low = λ q. p; high = below }))

pub cell_of : (xs : List ℤ) (y : ℤ) → 1 < length xs → (i : ℕ) × IsCell xs y i
cell_of xs y h = find_cell xs y (length xs - 2) (omega arith) (λ p. absurd (omega arith))

-- ---- what a binary search asks and finds
pub le_from : (a b : ℤ) → int_le a b ≡ true → a ≤ℤ b
le_from a b h = grind (arith, ints)

pub gt_from : (a b : ℤ) → int_le a b ≡ false → b <ℤ a
gt_from a b h = grind (arith, ints)

pub lt_from : (a b : ℤ) → int_lt a b ≡ true → a <ℤ b
lt_from a b h = grind (arith, ints)

pub ge_from : (a b : ℤ) → int_lt a b ≡ false → b ≤ℤ a
ge_from a b h = grind (arith, ints)

lt_passes : (a b : ℤ) → a <ℤ b → int_lt a b ≡ true
lt_passes a b h = grind (arith, ints)

any_default : (xs : List ℤ) (j : ℕ) (d : ℤ) → j < length xs → get_or xs j d ≡ get_or xs j (pos 0)
any_default xs j d h = get_or_default xs j d (pos 0) h

rises_from : (xs : List ℤ) → IsIndex xs → (i j : ℕ) (d : ℤ) → i ≤ j → j < length xs → get_or xs i d ≤ℤ get_or xs j d
rises_from xs ok i j d h k =
    let a = any_default xs i d (omega arith) in let b = any_default xs j d k in let r = rises xs ok i j h k in
    omega (arith, ints, a, b, r)

pub up_to_parted : (xs : List ℤ) (x : ℤ) → IsIndex xs → IsPartitionedBy (λ y. int_le y x) xs
up_to_parted xs x ok i j d h k held =
    let a = rises_from xs ok i j d h k in let b = le_from (get_or xs j d) x held in
    le_passes (get_or xs i d) x (omega (arith, ints, a, b))

pub below_parted : (xs : List ℤ) (x : ℤ) → IsIndex xs → IsPartitionedBy (λ y. int_lt y x) xs
below_parted xs x ok i j d h k held =
    let a = rises_from xs ok i j d h k in let b = lt_from (get_or xs j d) x held in
    lt_passes (get_or xs i d) x (omega (arith, ints, a, b))
