use Rattle.std.proofs.Common.{arith}
use Rattle.elmore_tree.proofs.GatherLaws.{no_step, step_ends}
use Rattle.elmore_tree.proofs.LinkLaws.{places_turn}
use Rattle.elmore_tree.proofs.order.places.Goals as goal

pub index_mut-requires : goal.index_mut-requires
index_mut-requires c =
    let ends = step_ends c.args.tree.now c.args.steps.now c.requires.grown c.requires.sound c.loop-index.index no_step c.loop-index-test.true in
    let count = c.loop-index.invariant.count in
    omega (arith, ends.1)

pub loop-index-preserved : goal.loop-index-preserved
loop-index-preserved c = places_turn c.args.tree.now c.args.steps.now c.requires.grown c.requires.sound c.loop-index.places.items c.loop-index.index no_step c.loop-index-test.true c.loop-index.invariant
