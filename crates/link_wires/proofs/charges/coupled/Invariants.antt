use Rattle.std.proofs.Common.{◌≤◌}
use Rattle.link_wires.proofs.charges.coupled.Given as goal

abbrev pub invariant-loop-cap : goal.invariant-loop-cap
invariant-loop-cap l = l.count ≤ l.cap-index
