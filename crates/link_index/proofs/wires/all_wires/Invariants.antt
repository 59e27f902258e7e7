use Rattle.std.proofs.Common.{length}
use Rattle.link_index.specs.Nets.{AreWired}
use Rattle.link_index.proofs.PlaceLaws.{ZippedTo}
use Rattle.link_index.proofs.wires.all_wires.Given as goal

abbrev pub invariant-instances : goal.invariant-instances
invariant-instances l = ZippedTo (λ i. AreWired i.pins) l.instances l.wires.items l.rest

abbrev pub decreases-instances : goal.decreases-instances
decreases-instances l = length l.rest
