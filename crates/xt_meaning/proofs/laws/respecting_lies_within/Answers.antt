use Rattle.xt_meaning.proofs.Limits.{respecting_within}
use Rattle.xt_meaning.proofs.laws.respecting_lies_within.Goals as goal

pub returns : goal.returns
returns c = λ d top W s env r. respecting_within d top W s env r
