use Rattle.std.proofs.Common.{ℕ, ◌<◌, get_or, pos, ◌<ℤ◌}
use Rattle.part_tests.proofs.tables.rises.Given as goal

abbrev pub invariant-loop-line : goal.invariant-loop-line
invariant-loop-line l = (i j : ℕ) → i < j → j < l.line → get_or l.index i (pos 0) <ℤ get_or l.index j (pos 0)
