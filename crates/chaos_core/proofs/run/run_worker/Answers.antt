use Rattle.net_eval.proofs.Steady.{no_groups}
use Rattle.chaos_core.proofs.run.run_worker.Goals as goal

pub run_by-requires-clause-groups : goal.run_by-requires-clause-groups
run_by-requires-clause-groups g c = no_groups _
