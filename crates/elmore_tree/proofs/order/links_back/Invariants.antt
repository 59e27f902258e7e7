use Rattle.elmore_tree.specs.Orders.{AreLinkedBack}
use Rattle.elmore_tree.proofs.LinkLaws.{Passes}
use Rattle.elmore_tree.proofs.order.links_back.Given as goal

abbrev pub invariant-loop-index : goal.invariant-loop-index
invariant-loop-index l = record {
  links : AreLinkedBack l.tree l.steps l.index l.links.items;
  passes : Passes l.tree l.steps l.counts l.index;
}
