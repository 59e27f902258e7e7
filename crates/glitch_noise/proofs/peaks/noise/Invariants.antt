use Rattle.xt_model.specs.Assign.{assigned}
use Rattle.glitch_noise.proofs.Lists.{AreFirst}
use Rattle.glitch_noise.proofs.peaks.noise.Given as goal

abbrev pub invariant-loop-number : goal.invariant-loop-number
invariant-loop-number l = AreFirst l.design (assigned l.high) l.number l.peaks.items
