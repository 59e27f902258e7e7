use Rattle.xt_meaning.proofs.Runs.{step_fits}
use Rattle.xt_meaning.proofs.laws.steps_keep_fitting.Goals as goal

pub returns : goal.returns
returns c = λ way d before after s start w t. step_fits way d before after s start w t
