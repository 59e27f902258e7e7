use Rattle.std.proofs.Common.{length}
use Rattle.hier_flatten.specs.Flat.{counts_of}
use Rattle.hier_flatten.specs.Walk.{AreLinked, AreNested, work}
use Rattle.hier_flatten.proofs.WalkLaws.{Walks}
use Rattle.hier_flatten.proofs.build.add_all.Given as goal

abbrev pub invariant-frames : goal.invariant-frames
invariant-frames l = record {
  nested : AreNested (length l.path.items) l.stack;
  linked : AreLinked l.index l.stack;
  walks : Walks l.index l.top l.stack l.path.items l.growing;
}

abbrev pub decreases-frames : goal.decreases-frames
decreases-frames l = work l.index (counts_of l.growing) l.stack
