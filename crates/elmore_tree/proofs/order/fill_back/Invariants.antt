use Rattle.std.proofs.Common.{◌≡◌, ◌≤◌}
use Rattle.elmore_tree.specs.Orders.{IsRowFrom, common}
use Rattle.elmore_tree.proofs.order.fill_back.Given as goal

abbrev pub invariant-back : goal.invariant-back
invariant-back l = record {
  there : l.at ≤ l.place;
  value : l.common ≡ common l.tree l.steps l.at l.place;
  row : IsRowFrom l.tree l.steps l.place l.at l.place l.row;
}

abbrev pub decreases-back : goal.decreases-back
decreases-back l = l.at
