use Rattle.std.proofs.Common.{ℕ, ◌<◌, get_or}
use Rattle.xt_model.specs.visits.Walk.{IsWalk, steps_left}
use Rattle.xt_model.proofs.visits.find_levels.Given as goal

abbrev pub invariant-loop-root : goal.invariant-loop-root
invariant-loop-root l = record {
  walk : IsWalk l.nets l.walk.levels.items l.walk.cursors.items l.walk.places.items l.walk.path.items;
  known : (i : ℕ) → i < l.root → 0 < get_or l.walk.levels.items i 0;
}

abbrev pub invariant-steps : goal.invariant-steps
invariant-steps l = record {
  walk : IsWalk l.nets l.walk.levels.items l.walk.cursors.items l.walk.places.items l.walk.path.items;
  known : (i : ℕ) → i < l.root → 0 < get_or l.walk.levels.items i 0;
}

abbrev pub decreases-steps : goal.decreases-steps
decreases-steps l = steps_left l.walk.places.items l.walk.path.items
