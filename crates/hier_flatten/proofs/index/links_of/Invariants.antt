use Rattle.std.proofs.Common.{◌≡◌, ◌++◌, length, map}
use Rattle.name_numbers.specs.Names.{value_of}
use Rattle.hier_flatten.proofs.index.links_of.Given as goal

abbrev pub invariant-instances : goal.invariant-instances
invariant-instances l = l.links.items ++ map (λ i. value_of i.cell l.numbers) l.rest ≡ map (λ i. value_of i.cell l.numbers) l.instances

abbrev pub decreases-instances : goal.decreases-instances
decreases-instances l = length l.rest
