use Rattle.std.proofs.Common.{◌≡◌, [], map}
use Rattle.sdc_read.specs.Changes.{over_first}
use Rattle.sdc_read.specs.Objects.{behind, net_bits}
use Rattle.sdc_read.specs.View.{bits_text}
use Rattle.sdc_read.proofs.listed.ports_of.Given as goal

abbrev pub invariant-loop-decl : goal.invariant-loop-decl
invariant-loop-decl l =
    map bits_text l.list.items ≡ over_first (λ i. behind (net_bits l.role l.netlist.nets i)) l.decl []
