use Rattle.table_box.proofs.Sweeps.{IsBoxSoFar}
use Rattle.table_box.proofs.ranges.swept_range.Given as goal

abbrev pub invariant-loop-line : goal.invariant-loop-line
invariant-loop-line l = IsBoxSoFar l.table l.slews.from l.slews.to l.loads.from l.loads.to l.slews.first l.line l.range.0 l.range.1
