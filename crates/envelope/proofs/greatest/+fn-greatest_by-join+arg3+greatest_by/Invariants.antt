use Rattle.std.proofs.Common.{◌+◌, ◌*◌}
use Rattle.envelope.proofs.greatest.+fn-greatest_by-join+arg3+greatest_by.Given as goal

abbrev pub decreases-greatest_by : goal.decreases-greatest_by
decreases-greatest_by g l = 2 * l.shares

abbrev pub decreases-join+arg3 : goal.decreases-join+arg3
decreases-join+arg3 g l = 2 * l.rest + 1
