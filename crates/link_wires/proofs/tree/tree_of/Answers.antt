use Rattle.link_wires.specs.Seen.{wire_by}
use Rattle.link_wires.proofs.TreeLaws.{charges_within, charges_natural, tree_sound}
use Rattle.link_wires.proofs.tree.tree_of.Goals as goal

pub grounds-requires-clause-within : goal.grounds-requires-clause-within
grounds-requires-clause-within c = rw (c.node_count-count.ensures, c.requires.charges) (charges_within c.args.nodes.now.list c.args.sinks.now (wire_by c.args.nodes.now.parasitics c.args.wire.now) c.requires.numbered)

pub grounds-requires-clause-natural : goal.grounds-requires-clause-natural
grounds-requires-clause-natural c = rw c.requires.charges (charges_natural c.args.nodes.now.list (wire_by c.args.nodes.now.parasitics c.args.wire.now) c.requires.wire c.args.sinks.now c.requires.sinks)

pub new-requires : goal.new-requires
new-requires c =
    let load = rw (c.requires.charges, c.requires.taps) at c.requires.most_load in
    rw (c.in_ok-resistors.ensures, c.in_ok-ground.ensures, c.in_ok-sinks.ensures, c.requires.taps, c.node_count-count.ensures, c.requires.charges)
    (tree_sound c.args.nodes.now.list c.args.sinks.now (wire_by c.args.nodes.now.parasitics c.args.wire.now) c.requires.numbered c.requires.wire c.requires.sinks c.requires.most_nodes load)
