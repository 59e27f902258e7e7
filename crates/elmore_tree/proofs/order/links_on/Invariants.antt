use Rattle.elmore_tree.specs.Orders.{AreLinkedOn}
use Rattle.elmore_tree.proofs.order.links_on.Given as goal

abbrev pub invariant-loop-index : goal.invariant-loop-index
invariant-loop-index l = AreLinkedOn l.tree l.steps l.index l.links.items
