use Rattle.std.proofs.Common.{◌+◌, ◌*◌}
use Rattle.report_text.proofs.tally.+fn-tally_by-join+arg2+fn-tally_by-join+arg3+tally_by.Given as goal

abbrev pub decreases-join+arg2 : goal.decreases-join+arg2
decreases-join+arg2 g l = 2 * l.some + 1

abbrev pub decreases-join+arg3 : goal.decreases-join+arg3
decreases-join+arg3 g l = 2 * l.rest + 1

abbrev pub decreases-tally_by : goal.decreases-tally_by
decreases-tally_by g l = 2 * l.shares
