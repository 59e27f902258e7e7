use Rattle.std.proofs.Common.{◌≡◌, ◌-◌, ◌^◌, min, take}
use Rattle.elmore_tree.specs.Trees.{ground_sum}
use Rattle.elmore_tests.proofs.sound.ground_in_all.Given as goal

abbrev pub invariant-loop-cap : goal.invariant-loop-cap
invariant-loop-cap l = l.total ≡ min (ground_sum (take l.cap-index l.ground)) (2 ^ 64 - 1)
