use Rattle.std.proofs.Common.{ℕ, ◌+◌, ◌<◌, ◌≤◌, ◌≤ℤ◌}
use Rattle.xt_meaning.specs.Lookup.{cell_value}
use Rattle.table_box.proofs.corners.does_row_rise.Given as goal

abbrev pub invariant-loop-column : goal.invariant-loop-column
invariant-loop-column l = (j : ℕ) → l.first ≤ j → j < l.column → cell_value l.table l.row j ≤ℤ cell_value l.table l.row (j + 1)
