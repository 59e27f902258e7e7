use Rattle.xt_meaning.proofs.Growth.{wired}
use Rattle.xt_meaning.proofs.Monotone.{operator_mono}
use Rattle.xt_meaning.proofs.laws.operator_is_monotone.Goals as goal

pub returns : goal.returns
returns c = λ d W V s h. operator_mono d W V (wired d s) h
