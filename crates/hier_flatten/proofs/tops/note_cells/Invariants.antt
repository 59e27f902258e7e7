use Rattle.std.proofs.Common.{length}
use Rattle.hier_flatten.proofs.TopsLaws.{AreNoted}
use Rattle.hier_flatten.proofs.tops.note_cells.Given as goal

abbrev pub invariant-instances : goal.invariant-instances
invariant-instances l = AreNoted l.rest l.instances l.initial.cells l.cells

abbrev pub decreases-instances : goal.decreases-instances
decreases-instances l = length l.rest
