use Rattle.envelope.specs.Greatest.{AreWiresOfNetsAtMost}
use Rattle.envelope.proofs.greatest.greatest_within.Given as goal

abbrev pub invariant-loop-net : goal.invariant-loop-net
invariant-loop-net l = AreWiresOfNetsAtMost l.design l.from l.net l.greatest
