use Rattle.std.proofs.Common.{◌≡◌, take}
use Rattle.design_gen.proofs.nets.couplings_of.Given as goal

abbrev pub invariant-loop-coupling : goal.invariant-loop-coupling
invariant-loop-coupling l = l.couplings.items ≡ take l.coupling-index l.drawn
