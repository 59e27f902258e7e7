use Rattle.std.proofs.Common.{◌≡◌, ◌≤◌, take, map, get_or}
use Rattle.xt_model.specs.Limits.{most_nets}
use Rattle.xt_model.specs.Levels.{greatest_of}
use Rattle.xt_model.proofs.visits.level_above.Given as goal

abbrev pub invariant-loop-arc : goal.invariant-loop-arc
invariant-loop-arc l = record {
  is : l.greatest ≡ greatest_of (map (λ a. get_or l.levels a.from.0 0) (take l.arc-index l.arcs));
  most : l.greatest ≤ most_nets;
}
