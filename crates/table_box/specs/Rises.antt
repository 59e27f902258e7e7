-- Parts of a table in which the numbers rise along both axes.
use Rattle.std.specs.Prelude.{ℕ, ◌+◌, ◌<◌, ◌≤◌, ◌≤ℤ◌}
use Rattle.xt_model.specs.Tables.{TableParts}
use Rattle.xt_meaning.specs.Lookup.{cell_value}

-- no number of a row is greater than the next, from column c0 to c1
pub record DoesRowRise (t : TableParts) (row c0 c1 : ℕ) : Type 0 where
  pub each : (j : ℕ) → c0 ≤ j → j < c1 → cell_value t row j ≤ℤ cell_value t row (j + 1)

-- no number of a row is greater than that of the next row, from column c0 to c1
pub record IsNextHigher (t : TableParts) (row c0 c1 : ℕ) : Type 0 where
  pub each : (j : ℕ) → c0 ≤ j → j ≤ c1 → cell_value t row j ≤ℤ cell_value t (row + 1) j

-- the numbers of rows r0 to r1 and columns c0 to c1 rise along both axes
pub record DoAllRise (t : TableParts) (r0 r1 c0 c1 : ℕ) : Type 0 where
  pub rows : (i : ℕ) → r0 ≤ i → i ≤ r1 → DoesRowRise t i c0 c1
  pub columns : (i : ℕ) → r0 ≤ i → i < r1 → IsNextHigher t i c0 c1
