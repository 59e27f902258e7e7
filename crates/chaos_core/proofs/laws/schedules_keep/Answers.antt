use Rattle.chaos_core.proofs.Actions.{schedule_reached}
use Rattle.chaos_core.proofs.laws.schedules_keep.Goals as goal

pub returns : goal.returns
returns c = λ a lists order s picks are o good. schedule_reached a lists order s picks are o good
