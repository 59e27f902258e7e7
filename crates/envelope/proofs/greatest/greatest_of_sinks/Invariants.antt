use Rattle.envelope.specs.Greatest.{AreWiresToSinksAtMost}
use Rattle.envelope.proofs.greatest.greatest_of_sinks.Given as goal

abbrev pub invariant-loop-sink : goal.invariant-loop-sink
invariant-loop-sink l = AreWiresToSinksAtMost l.victim.miller l.victim.net l.sink l.greatest
