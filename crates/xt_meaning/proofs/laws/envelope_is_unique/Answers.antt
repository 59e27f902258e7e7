use Rattle.xt_meaning.proofs.Growth.{wired}
use Rattle.xt_meaning.proofs.Widest.{widest_unique}
use Rattle.xt_meaning.proofs.laws.envelope_is_unique.Goals as goal

pub returns : goal.returns
returns c = λ d levels v w s l a b. widest_unique d levels v w (wired d s) l a b
