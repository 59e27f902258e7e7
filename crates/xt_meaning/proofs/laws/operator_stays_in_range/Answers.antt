use Rattle.xt_meaning.proofs.Rounds.{step_in_range}
use Rattle.xt_meaning.proofs.laws.operator_stays_in_range.Goals as goal

pub returns : goal.returns
returns c = λ d v n e s w. step_in_range d v n e s w
