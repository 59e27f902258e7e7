use Rattle.std.proofs.Common.{◌∙◌, sym}
use Rattle.link_wires.specs.Seen.{wire_by}
use Rattle.link_wires.proofs.LimitLaws.{limit_is, fault_is}
use Rattle.link_wires.proofs.wire.tree_within.Goals as goal

pub returns-in-Some-clause-fault : goal.returns-in-Some-clause-fault
returns-in-Some-clause-fault c =
    let p = c.args.pins.now in
    let counted = rw (c.deref.ensures.value, c.deref-2.ensures.value, c.in_ok-charges.ensures, c.in_ok-taps.ensures, c.as_slice-sinks.ensures) at c.greatest_load-load.ensures in
    let same = limit_is c.args.nodes.now.list p.sinks (wire_by c.args.nodes.now.parasitics c.args.parts.now) c.requires.numbered c.requires.wire c.requires.sinks c.args.listed p.name c.len.result c.greatest_load-load.result c.len.ensures counted in
    fault_is _ c.in-Some.fault (sym same ∙ (sym c.in_ok-fault.ensures ∙ c.in-Some.is))

pub charges_of-requires : goal.charges_of-requires
charges_of-requires c = rw c.as_slice-sinks.ensures c.requires.numbered.sinks

pub tree_of-requires-clause-charges : goal.tree_of-requires-clause-charges
tree_of-requires-clause-charges c = c.deref-3.ensures.value ∙ c.in_ok-charges.ensures

pub tree_of-requires-clause-numbered : goal.tree_of-requires-clause-numbered
tree_of-requires-clause-numbered c = rw c.as_slice-sinks.ensures c.requires.numbered

pub tree_of-requires-clause-sinks : goal.tree_of-requires-clause-sinks
tree_of-requires-clause-sinks c = rw c.as_slice-sinks.ensures c.requires.sinks

pub tree_of-requires-clause-taps : goal.tree_of-requires-clause-taps
tree_of-requires-clause-taps c = c.in_ok-taps.ensures

pub tree_of-requires-clause-wire : goal.tree_of-requires-clause-wire
tree_of-requires-clause-wire c = c.requires.wire
