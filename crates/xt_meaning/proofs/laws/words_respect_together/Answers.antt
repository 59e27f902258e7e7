use Rattle.xt_meaning.proofs.Steps.{respects_together, respects_apart}
use Rattle.xt_meaning.proofs.laws.words_respect_together.Goals as goal

pub returns : goal.returns
returns c = λ way d W. ((λ r. (respects_together way d W r).each), (λ each. respects_apart way d W (record { each = each })))
