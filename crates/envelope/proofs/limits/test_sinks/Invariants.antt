use Rattle.std.proofs.Common.{◌≡◌}
use Rattle.std.specs.Prelude.{None}
use Rattle.xt_meaning.specs.Envelope.{all_sink_tests, first_over}
use Rattle.envelope.specs.Firsts.{}
use Rattle.envelope.proofs.limits.test_sinks.Given as goal

abbrev pub invariant-loop-sink : goal.invariant-loop-sink
invariant-loop-sink l = None ≡ first_over (all_sink_tests l.victim.miller l.victim.number l.victim.net l.quad l.sink)
