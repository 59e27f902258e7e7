use Rattle.xt_meaning.proofs.Growth.{wired}
use Rattle.xt_meaning.proofs.Monotone.{widest_contains}
use Rattle.xt_meaning.proofs.laws.widest_contains.Goals as goal

pub returns : goal.returns
returns c = λ d W s. widest_contains d W (wired d s)
