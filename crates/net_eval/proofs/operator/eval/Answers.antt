use Rattle.net_eval.proofs.Steady.{no_groups}
use Rattle.net_eval.proofs.operator.eval.Goals as goal

pub eval_grouped-requires-clause-groups : goal.eval_grouped-requires-clause-groups
eval_grouped-requires-clause-groups g c = no_groups _
