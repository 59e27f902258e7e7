use Rattle.std.proofs.Common.{◌≡◌, ◌≤◌, ◌-◌, length}
use Rattle.elmore_tree.specs.Orders.{IsRowFrom, common}
use Rattle.elmore_tree.proofs.order.fill_on.Given as goal

abbrev pub invariant-on : goal.invariant-on
invariant-on l = record {
  after : l.place ≤ l.at;
  there : l.at ≤ length l.steps;
  value : l.common ≡ common l.tree l.steps l.place l.at;
  row : IsRowFrom l.tree l.steps l.place 0 l.at l.row;
}

abbrev pub decreases-on : goal.decreases-on
decreases-on l = length l.steps - l.at
