use Rattle.std.proofs.Common.{◌+◌, ◌*◌}
use Rattle.design_gen.proofs.design.+fn-nets_by-join+arg2+fn-nets_by-join+arg3+nets_by.Given as goal

abbrev pub decreases-nets_by : goal.decreases-nets_by
decreases-nets_by g l = 2 * l.shares

abbrev pub decreases-join+arg2 : goal.decreases-join+arg2
decreases-join+arg2 g l = 2 * l.some + 1

abbrev pub decreases-join+arg3 : goal.decreases-join+arg3
decreases-join+arg3 g l = 2 * l.rest + 1
