use Rattle.std.proofs.Common.{ℕ, ◌<◌, ◌≤◌}
use Rattle.table_box.specs.Rises.{DoesRowRise, IsNextHigher}
use Rattle.table_box.proofs.corners.do_all_rise.Given as goal

abbrev pub invariant-loop-row : goal.invariant-loop-row
invariant-loop-row l =
    (i : ℕ) → l.first_row ≤ i → i < l.row → (DoesRowRise l.table i l.first l.last) × (IsNextHigher l.table i l.first l.last)
