use Rattle.link_wires.specs.Ground.{IsGathered}
use Rattle.link_wires.proofs.charges.grounds.Given as goal

abbrev pub invariant-loop-charge : goal.invariant-loop-charge
invariant-loop-charge l = IsGathered l.charges l.count l.charge-index l.ground.items
