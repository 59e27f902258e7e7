use Rattle.xt_meaning.proofs.Growth.{wired}
use Rattle.xt_meaning.proofs.Widest.{envelope_barrier}
use Rattle.xt_meaning.proofs.laws.envelope_is_barrier.Goals as goal

pub returns : goal.returns
returns c = λ d top s env. envelope_barrier d top (wired d s) env
