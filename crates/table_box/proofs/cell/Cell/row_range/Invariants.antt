use Rattle.table_box.specs.Spans.{span_in}
use Rattle.table_box.proofs.Sweeps.{IsRowSoFar}
use Rattle.table_box.proofs.cell.Cell.row_range.Given as goal

abbrev pub invariant-loop-line : goal.invariant-loop-line
invariant-loop-line l = IsRowSoFar l.self.table.now (span_in l.slew) l.loads.from l.loads.to l.loads.first l.line l.range.0 l.range.1
