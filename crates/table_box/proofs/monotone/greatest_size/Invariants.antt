use Rattle.std.proofs.Common.{ℕ, ◌<◌, get_or, pos, ◌≤ℤ◌}
use Rattle.xt_model.specs.Tables.{IsTableNumber}
use Rattle.table_box.specs.Cells.{IsAtMost}
use Rattle.table_box.proofs.monotone.greatest_size.Given as goal

abbrev pub invariant-loop-place : goal.invariant-loop-place
invariant-loop-place l = record {
  each : (j : ℕ) → j < l.place → IsAtMost l.size (get_or l.numbers j (pos 0));
  least : pos 1 ≤ℤ l.size;
  number : IsTableNumber l.size;
}
