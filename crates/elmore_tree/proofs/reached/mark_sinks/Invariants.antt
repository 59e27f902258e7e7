use Rattle.std.proofs.Common.{take}
use Rattle.elmore_tree.specs.Gathering.{AreMarked}
use Rattle.elmore_tree.proofs.reached.mark_sinks.Given as goal

abbrev pub invariant-loop-sink : goal.invariant-loop-sink
invariant-loop-sink l = AreMarked (λ p. p) (take l.sink-index l.sinks) l.fn.marks l.marks
