use Rattle.net_eval.proofs.Steady.{no_groups}
use Rattle.net_eval.proofs.operator.eval_widest.Goals as goal

pub eval_widest_grouped-requires-clause-groups : goal.eval_widest_grouped-requires-clause-groups
eval_widest_grouped-requires-clause-groups g c = no_groups _
