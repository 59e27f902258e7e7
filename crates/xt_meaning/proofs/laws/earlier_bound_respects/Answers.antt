use Rattle.xt_meaning.proofs.Steps.{respects_before}
use Rattle.xt_meaning.proofs.laws.earlier_bound_respects.Goals as goal

pub returns : goal.returns
returns c = λ way d word a b h r. respects_before way d word a b h r
