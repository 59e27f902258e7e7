use Rattle.std.proofs.Common.{ℕ, ◌+◌, ◌<◌, ◌^◌, get_or, pos, ◌-ℤ◌, ◌≤ℤ◌}
use Rattle.table_box.proofs.monotone.greatest_width.Given as goal

abbrev pub invariant-loop-line : goal.invariant-loop-line
invariant-loop-line l = record {
  each : (i : ℕ) → i + 1 < l.line → (get_or l.index (i + 1) (pos 0) -ℤ get_or l.index i (pos 0)) ≤ℤ l.width;
  some : 0 < l.line;
  least : pos 1 ≤ℤ l.width;
  most : l.width ≤ℤ pos (2 ^ 41);
}
