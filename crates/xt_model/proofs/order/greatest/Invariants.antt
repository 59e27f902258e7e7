use Rattle.std.proofs.Common.{◌≡◌, take}
use Rattle.xt_model.specs.Levels.{greatest_of}
use Rattle.xt_model.proofs.order.greatest.Given as goal

abbrev pub invariant-loop-level : goal.invariant-loop-level
invariant-loop-level l = l.greatest ≡ greatest_of (take l.level-index l.levels)
