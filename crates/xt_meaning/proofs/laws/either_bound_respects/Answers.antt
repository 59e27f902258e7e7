use Rattle.xt_meaning.proofs.Steps.{respects_least, respects_greatest}
use Rattle.xt_meaning.proofs.laws.either_bound_respects.Goals as goal

pub returns : goal.returns
returns c = λ way d word a b ra rb. (respects_least way d word a b ra rb, respects_greatest way d word a b ra rb)
