use Rattle.std.proofs.Common.{◌≡◌, ◌++◌, length, map}
use Rattle.name_numbers.specs.Names.{value_of}
use Rattle.hier_flatten.proofs.index.all_links.Given as goal

abbrev pub invariant-modules : goal.invariant-modules
invariant-modules l =
    map (λ k. k.items) l.all.items ++ map (λ m. map (λ i. value_of i.cell l.numbers) m.instances) l.rest
    ≡ map (λ m. map (λ i. value_of i.cell l.numbers) m.instances) l.modules

abbrev pub decreases-modules : goal.decreases-modules
decreases-modules l = length l.rest
