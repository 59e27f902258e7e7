use Rattle.std.proofs.Common.{◌≡◌, length}
use Rattle.xt_number.specs.Value.{without_zeros}
use Rattle.spef_read.proofs.words.without_zeros.Given as goal

abbrev pub invariant-zeros : goal.invariant-zeros
invariant-zeros l = without_zeros l.rest ≡ without_zeros l.digits

abbrev pub decreases-zeros : goal.decreases-zeros
decreases-zeros l = length l.rest
