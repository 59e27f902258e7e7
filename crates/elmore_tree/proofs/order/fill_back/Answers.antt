use Rattle.std.proofs.Common.{arith}
use Rattle.elmore_tree.specs.Orders.{link_at}
use Rattle.elmore_tree.proofs.LinkLaws.{row_back}
use Rattle.elmore_tree.proofs.order.fill_back.Goals as goal

pub back-preserved : goal.back-preserved
back-preserved c =
    let w = c.back.invariant in
    let there = w.there in
    let place = c.requires.there in
    let turn = row_back c.args.tree.now c.args.steps.now c.requires.walk.grown c.requires.walk.order c.back.row c.args.place c.back.at c.back.common (link_at c.args.links.now c.back.at)
    c.back-test.true there place w.value (c.requires.links.each c.back.at c.back-test.true (omega (arith, there, place))) w.row in
    rw c.min-common.ensures (record { there = turn.0; value = turn.1; row = turn.2 })
