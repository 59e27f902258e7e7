use Rattle.elmore_tree.specs.Orders.{AreResistances}
use Rattle.elmore_tree.proofs.order.path_resistances.Given as goal

abbrev pub invariant-loop-step : goal.invariant-loop-step
invariant-loop-step l = AreResistances l.tree l.steps l.step-index l.sums.items
