use Rattle.xt_meaning.proofs.Extremes.{extreme_unique}
use Rattle.xt_meaning.proofs.laws.extreme_is_unique.Goals as goal

pub returns : goal.returns
returns c = λ way d x y a b. extreme_unique way d x y a b
