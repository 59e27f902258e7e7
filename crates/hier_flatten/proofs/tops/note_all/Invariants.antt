use Rattle.std.proofs.Common.{length}
use Rattle.hier_flatten.proofs.TopsLaws.{AreNotedIn}
use Rattle.hier_flatten.proofs.tops.note_all.Given as goal

abbrev pub invariant-modules : goal.invariant-modules
invariant-modules l = AreNotedIn l.rest l.modules l.cells

abbrev pub decreases-modules : goal.decreases-modules
decreases-modules l = length l.rest
