use Rattle.xt_model.specs.Assign.{assigned}
use Rattle.glitch_noise.proofs.Steady.{IsShareSoFar}
use Rattle.glitch_noise.proofs.shares.share.Given as goal

abbrev pub invariant-loop-coupling : goal.invariant-loop-coupling
invariant-loop-coupling l = IsShareSoFar l.design.period (assigned l.high) l.edge l.moment l.coupling-items l.coupling-index l.sum
