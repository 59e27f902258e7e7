use Rattle.hier_flatten.specs.Walk.{AreLinked, work}
use Rattle.hier_flatten.proofs.CountingLaws.{IsCounting}
use Rattle.hier_flatten.proofs.counting.passed_limit.Given as goal

abbrev pub invariant-frames : goal.invariant-frames
invariant-frames l = record {
  linked : AreLinked l.index l.stack;
  counting : IsCounting l.index l.top l.stack l.tally;
}

abbrev pub decreases-frames : goal.decreases-frames
decreases-frames l = work l.index l.tally l.stack
