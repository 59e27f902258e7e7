use Rattle.std.proofs.Common.{◌≡◌, ◌-◌, ◌^◌, min, take}
use Rattle.elmore_tree.specs.Trees.{tap_sum}
use Rattle.elmore_tests.proofs.sound.taps_in_all.Given as goal

abbrev pub invariant-loop-tap : goal.invariant-loop-tap
invariant-loop-tap l = l.total ≡ min (tap_sum (take l.tap-index l.taps)) (2 ^ 64 - 1)
