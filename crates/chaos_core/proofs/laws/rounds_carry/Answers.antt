use Rattle.chaos_core.proofs.Carrying.{round_carries}
use Rattle.chaos_core.proofs.laws.rounds_carry.Goals as goal

pub returns : goal.returns
returns c = λ a lists order workers p q some are o kept round. round_carries a lists order workers p q some are o kept round
