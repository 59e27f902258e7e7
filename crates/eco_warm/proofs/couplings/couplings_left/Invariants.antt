use Rattle.std.proofs.Common.{◌≡◌, ◌++◌, drop}
use Rattle.eco_warm.specs.Edits.{couplings_left}
use Rattle.eco_warm.proofs.couplings.couplings_left.Given as goal

abbrev pub invariant-loop-coupling : goal.invariant-loop-coupling
invariant-loop-coupling l =
    (l.left.items ++ couplings_left l.moving l.other.0 (drop l.coupling-index l.couplings)) ≡ couplings_left l.moving l.other.0 l.couplings
