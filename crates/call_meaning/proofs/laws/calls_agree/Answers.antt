use Rattle.call_meaning.proofs.Calls.{calls_agree}
use Rattle.call_meaning.proofs.laws.calls_agree.Goals as goal

pub returns : goal.returns
returns g c = calls_agree _ _
