use Rattle.std.proofs.Common.{take}
use Rattle.elmore_tree.specs.declared.part.Tap.{Tap}
use Rattle.elmore_tree.specs.Gathering.{AreMarked}
use Rattle.elmore_tree.proofs.reached.mark_taps.Given as goal

abbrev pub invariant-loop-tap : goal.invariant-loop-tap
invariant-loop-tap l = AreMarked (λ (tap : Tap). tap.node) (take l.tap-index l.taps) l.fn.marks l.marks
