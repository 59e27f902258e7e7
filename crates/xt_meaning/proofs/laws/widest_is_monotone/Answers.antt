use Rattle.xt_meaning.proofs.Growth.{wired}
use Rattle.xt_meaning.proofs.Monotone.{widest_mono}
use Rattle.xt_meaning.proofs.laws.widest_is_monotone.Goals as goal

pub returns : goal.returns
returns c = λ d W V s h. widest_mono d W V (wired d s) h
