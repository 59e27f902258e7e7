use Rattle.net_eval.proofs.Steady.{no_groups}
use Rattle.net_eval.proofs.closing.closed_part.Goals as goal

pub closed_part_grouped-requires-clause-groups : goal.closed_part_grouped-requires-clause-groups
closed_part_grouped-requires-clause-groups c = no_groups _
