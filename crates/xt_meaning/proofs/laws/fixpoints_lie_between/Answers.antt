use Rattle.xt_meaning.proofs.Extremes.{least_within, within_greatest}
use Rattle.xt_meaning.proofs.laws.fixpoints_lie_between.Goals as goal

pub returns : goal.returns
returns c = λ d low high v l g f. (least_within d low v l f, within_greatest d high v g f)
