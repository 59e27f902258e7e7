use Rattle.std.proofs.Common.{◌+◌, ◌-◌, ◌*◌}
use Rattle.chaos_run.proofs.look.+halves.Given as goal

abbrev pub decreases-closed_by : goal.decreases-closed_by
decreases-closed_by g l = 4 * l.shares

abbrev pub decreases-both_halves : goal.decreases-both_halves
decreases-both_halves g l = 4 * (l.some + l.rest) - 1

abbrev pub decreases-both_halves-front : goal.decreases-both_halves-front
decreases-both_halves-front g l = 4 * l.some + 1

abbrev pub decreases-both_halves-back : goal.decreases-both_halves-back
decreases-both_halves-back g l = 4 * l.rest + 1
