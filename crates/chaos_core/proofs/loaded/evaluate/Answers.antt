use Rattle.net_eval.proofs.Steady.{no_groups}
use Rattle.chaos_core.proofs.loaded.evaluate.Goals as goal

pub evaluate_grouped-requires-clause-groups : goal.evaluate_grouped-requires-clause-groups
evaluate_grouped-requires-clause-groups c = no_groups _
