use Rattle.xt_meaning.proofs.Extremes.{extreme_from_fixpoint}
use Rattle.xt_meaning.proofs.laws.closed_is_extreme.Goals as goal

pub returns : goal.returns
returns c = λ way d x f r. extreme_from_fixpoint way d x f r
