use Rattle.std.proofs.Common.{subst, ◌∙◌}
use Rattle.elmore_tree.specs.Trees.{IsSoundTree}
use Rattle.elmore_tree.specs.Forms.{IsFaultOf}
use Rattle.link_wires.specs.Seen.{wire_by}
use Rattle.link_wires.proofs.NetLaws.{fault_there}
use Rattle.link_wires.proofs.wire.wire_within.Goals as goal

pub check_tree-requires : goal.check_tree-requires
check_tree-requires c = λ fault cause.
    let h = c.in_ok-tree.ensures.ok in
    fault_there c.args.nodes.now.list c.args.pins.now.sinks (wire_by c.args.nodes.now.parasitics c.args.parts.now) (subst IsSoundTree h.tree h.sound) fault (subst (λ t. IsFaultOf t fault) h.tree cause)

pub tree_within-requires-clause-numbered : goal.tree_within-requires-clause-numbered
tree_within-requires-clause-numbered c = c.requires.numbered

pub tree_within-requires-clause-sinks : goal.tree_within-requires-clause-sinks
tree_within-requires-clause-sinks c = c.requires.sinks

pub tree_within-requires-clause-unlisted : goal.tree_within-requires-clause-unlisted
tree_within-requires-clause-unlisted c = c.requires.unlisted

pub tree_within-requires-clause-wire : goal.tree_within-requires-clause-wire
tree_within-requires-clause-wire c = c.requires.wire

pub returns-clause-ok : goal.returns-clause-ok
returns-clause-ok c = rw c.in_ok-new.ensures (record {
  couplings = c.from_vec.ensures ∙ c.in_ok-couplings.ensures c.args.nodes.now.parasitics;
  tree = c.in_ok-tree.ensures.ok;
  accepted = c.in_ok-check_tree.ensures.ok;
})
