use Rattle.std.proofs.Common.{length, map}
use Rattle.hier_flatten.proofs.NamesLaws.{AreSoFar}
use Rattle.hier_flatten.proofs.names.enter_names.Given as goal

abbrev pub invariant-instances : goal.invariant-instances
invariant-instances l = AreSoFar l.names (map (λ i. i.name) l.rest) (map (λ i. i.name) l.instances)

abbrev pub decreases-instances : goal.decreases-instances
decreases-instances l = length l.rest
