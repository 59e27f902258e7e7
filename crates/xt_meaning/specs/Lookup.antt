-- The value of a look-up table at a slew and a load, and its range over a box of them.
use Rattle.std.specs.Prelude.{ℕ, ◌+◌, ◌*◌, ◌-◌, zero, suc, ◌==◌, if◌then◌else◌, ℤ, pos, ◌+ℤ◌, ◌-ℤ◌, ◌*ℤ◌, int_le}
use Rattle.std.specs.Prelude.{unsigned_abs, List, length, count_by, take, drop}
use Rattle.std.specs.Int.{int_min, int_max, int_div_euclid}
use Rattle.std.specs.List.{slice_index_or}
use Rattle.xt_model.specs.Tables.{TableParts}

-- x, or the end of the index that it is past
abbrev pub clamped : List ℤ → ℤ → ℤ
clamped xs x = int_max (slice_index_or xs 0 (pos 0)) (int_min x (slice_index_or xs (length xs - 1) (pos 0)))

-- the grid lines between the first and the last
abbrev pub inner_lines : List ℤ → List ℤ
inner_lines xs = take (length xs - 2) (drop 1 xs)

-- where x lies between two neighbouring grid lines: their places in the index, how far x is above the
-- first and below the second, and how far they are apart
pub record Span : Type 0 where
  pub first : ℕ
  pub second : ℕ
  pub above : ℤ
  pub below : ℤ
  pub width : ℤ

-- between the lines number i and i + 1
abbrev pub span_at : List ℤ → ℤ → ℕ → Span
span_at xs x i = record {
  first = i;
  second = i + 1;
  above = x -ℤ slice_index_or xs i (pos 0);
  below = slice_index_or xs (i + 1) (pos 0) -ℤ x;
  width = slice_index_or xs (i + 1) (pos 0) -ℤ slice_index_or xs i (pos 0);
}

-- an index of one value is constant
abbrev pub whole_span : Span
whole_span = record { first = 0; second = 0; above = pos 0; below = pos 1; width = pos 1 }

-- the cell of an axis that holds x, once x is clamped: as many inner grid lines lie at or below x as cells
-- lie before it
abbrev pub span_of : List ℤ → ℤ → Span
span_of xs x =
    if length xs == 1 then whole_span
    else span_at xs (clamped xs x) (count_by (λ g. int_le g (clamped xs x)) (inner_lines xs))

-- the value of a row and a column
abbrev pub cell_value : TableParts → ℕ → ℕ → ℤ
cell_value t row column = slice_index_or t.values (row * length t.loads + column) (pos 0)

-- the four corner values, each weighted by the distances to the opposite lines
abbrev pub weighted : TableParts → Span → Span → ℤ
weighted t s c =
    (((cell_value t s.first c.first *ℤ s.below) *ℤ c.below) +ℤ ((cell_value t s.first c.second *ℤ s.below) *ℤ c.above))
    +ℤ (((cell_value t s.second c.first *ℤ s.above) *ℤ c.below)
    +ℤ ((cell_value t s.second c.second *ℤ s.above) *ℤ c.above))

-- the floor of the exact bilinear fraction, over the area of the cell
abbrev pub value_in : TableParts → Span → Span → ℤ
value_in t s c = int_div_euclid (weighted t s c) (s.width *ℤ c.width)

-- the value at slew s and load c
unfoldable pub table_value : TableParts → ℤ → ℤ → ℤ
table_value t s c = value_in t (span_of t.slews s) (span_of t.loads c)

-- a slew below 0 counts as 0
abbrev pub slew_value : TableParts → ℤ → ℤ → ℤ
slew_value t s c = int_max (pos 0) (table_value t s c)

-- all whole points from slew s0 to s1 and load c0 to c1
pub record Box : Type 0 where
  pub s0 : ℤ
  pub s1 : ℤ
  pub c0 : ℤ
  pub c1 : ℤ

-- the least of f 0 to f n
abbrev pub least_of : (ℕ → ℤ) → ℕ → ℤ
least_of f zero = f 0
least_of f (suc n) = int_min (least_of f n) (f (suc n))

-- the greatest of f 0 to f n
abbrev pub greatest_of : (ℕ → ℤ) → ℕ → ℤ
greatest_of f zero = f 0
greatest_of f (suc n) = int_max (greatest_of f n) (f (suc n))

-- how many whole steps lead from a to b
abbrev pub steps_between : ℤ → ℤ → ℕ
steps_between a b = unsigned_abs (b -ℤ a)

-- the least of f over every whole point of the box
unfoldable pub least_over : (ℤ → ℤ → ℤ) → Box → ℤ
least_over f b =
    least_of (λ i. least_of (λ j. f (b.s0 +ℤ pos i) (b.c0 +ℤ pos j)) (steps_between b.c0 b.c1))
    (steps_between b.s0 b.s1)

-- the greatest of f over every whole point of the box
unfoldable pub greatest_over : (ℤ → ℤ → ℤ) → Box → ℤ
greatest_over f b =
    greatest_of (λ i. greatest_of (λ j. f (b.s0 +ℤ pos i) (b.c0 +ℤ pos j)) (steps_between b.c0 b.c1))
    (steps_between b.s0 b.s1)
