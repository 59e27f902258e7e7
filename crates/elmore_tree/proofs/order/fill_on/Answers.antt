use Rattle.std.proofs.Common.{arith, ◌≤◌, length}
use Rattle.elmore_tree.specs.Orders.{link_at}
use Rattle.elmore_tree.proofs.LinkLaws.{row_on}
use Rattle.elmore_tree.proofs.order.fill_on.Goals as goal

pub on-preserved : goal.on-preserved
on-preserved c =
    let w = c.on.invariant in
    let at = w.there in
    let count = w.row.count in
    let within : (link_at c.args.links.now c.on.at).place ≤ length c.args.steps.now = let test = c.on-test.true in omega (arith, count, test) in
    let after = w.after in
    let turn = row_on c.args.tree.now c.args.steps.now c.requires.walk.grown c.requires.walk.order c.on.row c.args.place c.on.at c.on.common (link_at c.args.links.now c.on.at)
    after within w.value (c.requires.links.each c.on.at (omega arith) at) w.row in
    rw c.min-common.ensures (record { after = turn.0; there = within; value = turn.1; row = turn.2 })
