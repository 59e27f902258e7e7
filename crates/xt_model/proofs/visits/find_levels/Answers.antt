use Rattle.std.proofs.Common.{refl, arith}
use Rattle.xt_model.proofs.WalkSteps.{walk_begins, walk_ends, greatest_fits}
use Rattle.xt_model.proofs.visits.find_levels.Goals as goal

pub loop-root-init : goal.loop-root-init
loop-root-init c = record {
  walk = rw (c.in_ok-walk.ensures.levels, c.in_ok-walk.ensures.cursors, c.in_ok-walk.ensures.places, c.in_ok-walk.ensures.path) (walk_begins c.args.nets.now _ refl);
  known = λ i h. absurd (omega arith);
}

pub returns-clause-levels : goal.returns-clause-levels
returns-clause-levels c = walk_ends _ _ _ _ _ c.loop-root.invariant.walk (λ i h. c.loop-root.invariant.known i (omega arith))

pub returns-clause-most : goal.returns-clause-most
returns-clause-most c = greatest_fits _ _ _ _ _ c.loop-root.invariant.walk
