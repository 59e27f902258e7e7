-- Tables: indexes that increase, values that are turned, and tables without a fault.
use Rattle.std.proofs.Common.{◌≡◌, refl, ap, ◌∙◌, ℕ, zero, suc, ◌+◌, ◌*◌, ◌<◌, List, [], ◌∷◌, ◌++◌, length, map, get_or, suc-mul, append_assoc, arith}
use Rattle.std.proofs.lemmas.Bool.{and_parts}
use Rattle.std.proofs.lemmas.Bool.Decides.{nat_tests}
use Rattle.std.proofs.lemmas.Float.{T_from_true}
use Rattle.std.proofs.lemmas.Int.{ints}
use Rattle.std.proofs.lemmas.List.{append-nil, length-append}
use Rattle.std.proofs.lemmas.List.Concat.{flat_map-append}
use Rattle.std.proofs.lemmas.List.FromFn.{map-range_with_len_more, length-map-range_with_len}
use Rattle.std.specs.Prelude.{Bool, true, false, not, ◌&&◌, nat_lt, ◌==◌, if◌then◌else◌, flat_map, ℤ, pos, int_lt, ◌<ℤ◌, Option, Some, None}
use Rattle.std.specs.List.{All, range_with_len}
use Rattle.xt_model.specs.Tables.{IsIndex, IsTableNumber, IsTable}
use Rattle.liberty_tables.specs.declared.axis.Index.{Index}
use Rattle.liberty_tables.specs.declared.axis.Axis.{Axis}
use Rattle.liberty_tables.specs.declared.axis.Axes.{Axes}
use Rattle.liberty_tables.specs.Refusals.{earlier}
use Rattle.liberty_tables.specs.Tables.{value_at, column_of, by_columns, is_increasing, is_sized, is_index, line_if, numbers_or_none, index_numbers, index_line, pairing_fault, axis_numbers, order_fault, shape_fault, count_fault, table_shape_fault}

-- ---- values that are turned

-- the numbers from a first one on, and one more
range_suc : (a n : ℕ) → range_with_len a (suc n) ≡ range_with_len a n ++ (a + n) ∷ []
range_suc a zero = let e : a ≡ a + 0 = omega arith in ap (λ k. k ∷ []) e
range_suc a (suc n) =
    let e : a + 1 + n ≡ a + suc n = omega arith in
    ap (λ r. a ∷ r) (range_suc (a + 1) n ∙ ap (λ k. range_with_len (a + 1) n ++ k ∷ []) e)

range_more : (a n : ℕ) → range_with_len a (n + 1) ≡ range_with_len a n ++ (a + n) ∷ []
range_more a n = let e : n + 1 ≡ suc n = omega arith in ap (range_with_len a) e ∙ range_suc a n

-- one more row of a column
pub rows_more : (f : ℕ → ℤ) (n : ℕ) → map f (range_with_len 0 (n + 1)) ≡ map f (range_with_len 0 n) ++ f n ∷ []
rows_more f n = map-range_with_len_more f 0 n n (omega arith)

-- one more value of a column behind others
pub row_turn : (done : List ℤ) (f : ℕ → ℤ) (n : ℕ) (old new : List ℤ) (x y : ℤ)
    → old ≡ done ++ map f (range_with_len 0 n) → x ≡ f n → y ≡ x → new ≡ old ++ y ∷ []
    → new ≡ done ++ map f (range_with_len 0 (n + 1))
row_turn done f n old new x y known value same pushed =
    rw (pushed, known, same, value, rows_more f n) (append_assoc done (map f (range_with_len 0 n)) (f n ∷ []))

-- one more column
pub columns_more : (f : ℕ → List ℤ) (n : ℕ) → flat_map f (range_with_len 0 (n + 1)) ≡ flat_map f (range_with_len 0 n) ++ f n
columns_more f n =
    let e : 0 + n ≡ n = omega arith in
    ap (flat_map f) (range_more 0 n) ∙ flat_map-append f (range_with_len 0 n) ((0 + n) ∷ [])
    ∙ ap (λ xs. flat_map f (range_with_len 0 n) ++ xs) (append-nil (f (0 + n)) ∙ ap f e)

-- columns of one length
columns_length : (f : ℕ → List ℤ) (size a n : ℕ) → ((k : ℕ) → length (f k) ≡ size) → length (flat_map f (range_with_len a n)) ≡ n * size
columns_length f size a zero each = omega arith
columns_length f size a (suc n) each =
    let e = length-append (f a) (flat_map f (range_with_len (a + 1) n)) in
    let one = each a in
    let more = columns_length f size (a + 1) n each in
    let product = suc-mul n size in
    omega arith

pub turned_length : (rows columns : ℕ) (values : List ℤ) → length (by_columns rows columns values) ≡ columns * rows
turned_length rows columns values =
    columns_length (column_of rows columns values) rows 0 columns
    (λ k. length-map-range_with_len (value_at columns values k) 0 rows)

-- ---- indexes

both : (b c : Bool) → (if b then c else false) ≡ true → (b ≡ true) × (c ≡ true)
both true c e = (refl, e)
both false c e = (e, absurd (cc e))

below_from : (x y : ℤ) → int_lt x y ≡ true → x <ℤ y
below_from x y e = record { lt = T_from_true (int_lt x y) e }

-- the first of increasing numbers is less than the others
first_least : (x : ℤ) (xs : List ℤ) → is_increasing (x ∷ xs) ≡ true → (j : ℕ) → j < length xs → x <ℤ get_or xs j (pos 0)
first_least x [] e j lt = absurd (omega (arith, lt))
first_least x (y ∷ ys) e zero lt = below_from x y (both (int_lt x y) (is_increasing (y ∷ ys)) e).0
first_least x (y ∷ ys) e (suc j) lt =
    let b = both (int_lt x y) (is_increasing (y ∷ ys)) e in
    let one : x <ℤ y = below_from x y b.0 in
    let two : y <ℤ get_or ys j (pos 0) = first_least y ys b.1 j (omega (arith, lt)) in
    omega (arith, ints, one, two)

rest_increases : (x : ℤ) (xs : List ℤ) → is_increasing (x ∷ xs) ≡ true → is_increasing xs ≡ true
rest_increases x [] e = refl
rest_increases x (y ∷ ys) e = (both (int_lt x y) (is_increasing (y ∷ ys)) e).1

in_order : (xs : List ℤ) → is_increasing xs ≡ true → (i j : ℕ) → i < j → j < length xs → get_or xs i (pos 0) <ℤ get_or xs j (pos 0)
in_order [] e i j lt within = absurd (omega (arith, within))
in_order (x ∷ xs) e i zero lt within = absurd (omega (arith, lt))
in_order (x ∷ xs) e zero (suc j) lt within = first_least x xs e j (omega (arith, within))
in_order (x ∷ xs) e (suc i) (suc j) lt within = in_order xs (rest_increases x xs e) i j (omega (arith, lt)) (omega (arith, within))

is_index_both : (xs : List ℤ) → is_index xs ≡ true → (is_sized xs ≡ true) × (is_increasing xs ≡ true)
is_index_both xs = and_parts (is_sized xs) (is_increasing xs)

sized_both : (xs : List ℤ) → is_sized xs ≡ true → (nat_lt 0 (length xs) ≡ true) × (nat_lt (length xs) 65 ≡ true)
sized_both xs = and_parts (nat_lt 0 (length xs)) (nat_lt (length xs) 65)

-- an index that passes the tests is one
pub index_from : (xs : List ℤ) → is_index xs ≡ true → All IsTableNumber xs → IsIndex xs
index_from xs e numbers =
    let tests = is_index_both xs e in
    let some = (sized_both xs tests.0).0 in
    let most = (sized_both xs tests.0).1 in
    record {
      some = grind (arith, nat_tests, some);
      most = grind (arith, nat_tests, most);
      rising = record { each = in_order xs tests.1 };
      numbers = numbers;
    }

-- ---- tables without a fault

earlier_none : (a b : Option ℕ) → earlier a b ≡ None → (a ≡ None) × (b ≡ None)
earlier_none None b e = (refl, e)
earlier_none (Some x) None e = (e, refl)
earlier_none (Some x) (Some y) e = absurd (cc e)

line_if_none : (b : Bool) (line : ℕ) → line_if (not b) (Some line) ≡ None → b ≡ true
line_if_none true line e = refl
line_if_none false line e = absurd (cc e)

index_fits : (index : Option Index)
    → line_if (not (is_increasing (numbers_or_none (index_numbers index)))) (index_line index) ≡ None
    → line_if (not (is_sized (numbers_or_none (index_numbers index)))) (index_line index) ≡ None
    → is_index (numbers_or_none (index_numbers index)) ≡ true
index_fits None order size = refl
index_fits (Some i) order size =
    rw (line_if_none (is_sized (numbers_or_none i.numbers)) i.line size, line_if_none (is_increasing (numbers_or_none i.numbers)) i.line order) refl

-- an axis without a fault has an index
axis_fits : (axis : Axis) → order_fault axis ≡ None → shape_fault axis ≡ None → is_index (axis_numbers axis) ≡ true
axis_fits axis order shape =
    index_fits axis.index order
    (earlier_none (pairing_fault axis.variable axis.index) (line_if (not (is_sized (axis_numbers axis))) (index_line axis.index)) shape).1

module _ (axes : Axes) (line : ℕ) (values : List ℤ)
    (order : earlier (order_fault axes.first) (order_fault axes.second) ≡ None)
    (shape : table_shape_fault axes line values ≡ None) where
  shapes : (earlier (shape_fault axes.first) (shape_fault axes.second) ≡ None) × (count_fault line axes.first axes.second values ≡ None)
  shapes = earlier_none (earlier (shape_fault axes.first) (shape_fault axes.second)) (count_fault line axes.first axes.second values) shape

  pub first_fits : is_index (axis_numbers axes.first) ≡ true
  first_fits =
      axis_fits axes.first (earlier_none (order_fault axes.first) (order_fault axes.second) order).0
      (earlier_none (shape_fault axes.first) (shape_fault axes.second) shapes.0).0

  pub second_fits : is_index (axis_numbers axes.second) ≡ true
  second_fits =
      axis_fits axes.second (earlier_none (order_fault axes.first) (order_fault axes.second) order).1
      (earlier_none (shape_fault axes.first) (shape_fault axes.second) shapes.0).1

  pub count_fits : length values ≡ length (axis_numbers axes.first) * length (axis_numbers axes.second)
  count_fits =
      let same = line_if_none (length values == length (axis_numbers axes.first) * length (axis_numbers axes.second)) line shapes.1 in
      grind (arith, nat_tests, same)

-- ---- the table that is made

pub made : (outer inner values : List ℤ) → is_index outer ≡ true → is_index inner ≡ true
    → length values ≡ length outer * length inner
    → All IsTableNumber outer → All IsTableNumber inner → All IsTableNumber values
    → (slews loads numbers : List ℤ) → slews ≡ outer → loads ≡ inner → numbers ≡ values
    → IsTable (record { slews = slews; loads = loads; values = numbers })
made outer inner values o i count outers inners all slews loads numbers s l n = rw (s, l, n) (record {
  slews = index_from outer o outers;
  loads = index_from inner i inners;
  count = count;
  values = all;
})
