use Rattle.envelope.proofs.Turns.{IsTestedPass}
use Rattle.envelope.proofs.pass.one_pass.Given as goal

abbrev pub invariant-loop-net : goal.invariant-loop-net
invariant-loop-net l = IsTestedPass l.design l.net-items l.windows l.net-index
