-- Look-up tables of cells: two index lists that rise, and values row by row.
use Rattle.std.specs.Prelude.{◌≡◌, ℕ, ◌*◌, ◌<◌, ◌≤◌, ℤ, pos, neg_ℤ, ◌≤ℤ◌, ◌<ℤ◌, List, length}
use Rattle.std.specs.List.{All, slice_index_or}
use Rattle.xt_model.specs.Limits.{most_in_table, most_lines}

-- a table, seen as its three lists
pub record TableParts : Type 0 where
  pub slews : List ℤ
  pub loads : List ℤ
  pub values : List ℤ

-- a number of a table is at most 2^40 in size
pub record IsTableNumber (x : ℤ) : Type 0 where
  pub low : neg_ℤ most_in_table ≤ℤ x
  pub high : x ≤ℤ most_in_table

-- each number is less than every later one
pub record IsRising (xs : List ℤ) : Type 0 where
  pub each : (i j : ℕ) → i < j → j < length xs → slice_index_or xs i (pos 0) <ℤ slice_index_or xs j (pos 0)

-- 1 to 64 numbers in rising order
pub record IsIndex (xs : List ℤ) : Type 0 where
  pub some : 0 < length xs
  pub most : length xs ≤ most_lines
  pub rising : IsRising xs
  pub numbers : All IsTableNumber xs

-- one value for each slew and load, row by row, one row per slew
pub record IsTable (t : TableParts) : Type 0 where
  pub slews : IsIndex t.slews
  pub loads : IsIndex t.loads
  pub count : length t.values ≡ length t.slews * length t.loads
  pub values : All IsTableNumber t.values
