use Rattle.elmore_tree.specs.Orders.{ArePlaces}
use Rattle.elmore_tree.proofs.order.places.Given as goal

abbrev pub invariant-loop-index : goal.invariant-loop-index
invariant-loop-index l = ArePlaces l.tree l.steps l.index l.places.items
