use Rattle.call_meaning.proofs.Calls.{alike_mean}
use Rattle.call_meaning.proofs.laws.workers_change_nothing.Goals as goal

pub returns : goal.returns
returns c = alike_mean
