use Rattle.xt_meaning.proofs.Growth.{wired}
use Rattle.xt_meaning.proofs.Steps.{respects_after, fits_after}
use Rattle.xt_meaning.proofs.laws.steps_keep_on.Goals as goal

pub returns : goal.returns
returns c = λ way d before after s r t. (respects_after way d before after (wired d s) r t, fits_after way d before after (wired d s) t)
