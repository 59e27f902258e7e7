use Rattle.std.proofs.Common.{◌∙◌, ap, replicate, true, false, set, arith}
use Rattle.elmore_tree.proofs.Walking.{walk_begins}
use Rattle.elmore_tree.proofs.walk.Walk.new.Goals as goal

pub index_mut-requires : goal.index_mut-requires
index_mut-requires c =
    let len = c.in_ok-reached.ensures.len in
    let is = c.root.ensures.value in
    let root = c.root.ensures.sound.root in
    let nodes = c.nodes-nodes.ensures.value in
    omega (arith, len, is, root, nodes)

pub returns-clause-steps : goal.returns-clause-steps
returns-clause-steps c = c.in_ok-steps.ensures.items

pub returns-clause-walk : goal.returns-clause-walk
returns-clause-walk c =
    let t = c.args.tree.now in
    let blank = c.in_ok-reached.ensures.items_if_clones_equal (λ y e. e) ∙ ap (λ n. replicate n false) c.nodes-nodes.ensures.value in
    rw (c.in_ok-steps.ensures.items, c.new-pending.ensures.items) (walk_begins t c.in_ok-reached.reached.items _ c.root.ensures.sound.root blank (ap (λ k. set c.in_ok-reached.reached.items k true) c.root.ensures.value))
