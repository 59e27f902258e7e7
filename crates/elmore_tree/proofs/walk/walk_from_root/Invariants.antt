use Rattle.std.proofs.Common.{◌-◌, length}
use Rattle.elmore_tree.specs.Walks.{IsWalk, IsSpread}
use Rattle.elmore_tree.proofs.walk.walk_from_root.Given as goal

abbrev pub invariant-steps : goal.invariant-steps
invariant-steps l = record {
  walk : IsWalk l.tree l.walk.reached.items l.walk.steps.items l.walk.pending.items;
  spread : IsSpread l.tree l.walk.reached.items l.walk.steps.items;
}

abbrev pub decreases-steps : goal.decreases-steps
decreases-steps l = l.tree.nodes - length l.walk.steps.items
