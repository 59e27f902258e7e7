use Rattle.std.proofs.Common.{ap, arith, of_z, w64}
use Rattle.table_box.proofs.Places.{below_all}
use Rattle.table_box.proofs.stretch.lines_below.Goals as goal

pub returns : goal.returns
returns c = let some = c.if-lines-eq0.false in below_all _ _ _ c.requires.index c.requires.lines (omega arith) (λ e. c.if-index-lines.false (ap (of_z w64) e))
