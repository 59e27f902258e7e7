use Rattle.elmore_tree.proofs.LinkLaws.{own_at, row_of_sink}
use Rattle.elmore_tree.proofs.order.TapOrder.fill.Goals as goal

pub fill_back-requires-clause-own : goal.fill_back-requires-clause-own
fill_back-requires-clause-own c =
    own_at c.args.tree.now c.args.steps.now c.requires.walk.grown c.requires.walk.order c.args.self.now c.args.sink c.index-place.result.now c.index-own.result.now c.requires.made c.requires.there c.requires.visited c.index-place.ensures c.index-own.ensures

pub fill_on-requires-clause-own : goal.fill_on-requires-clause-own
fill_on-requires-clause-own c =
    own_at c.args.tree.now c.args.steps.now c.requires.walk.grown c.requires.walk.order c.args.self.now c.args.sink c.index-place.result.now c.index-own.result.now c.requires.made c.requires.there c.requires.visited c.index-place.ensures c.index-own.ensures

pub returns : goal.returns
returns c = row_of_sink c.args.tree.now c.args.steps.now c.requires.walk.grown c.requires.walk.order c.args.self.now c.fill_on.new.row c.args.sink c.index-place.result.now c.requires.made c.fill_on.ensures
    c.requires.there c.requires.visited c.index-place.ensures
