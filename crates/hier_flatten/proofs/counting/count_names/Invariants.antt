use Rattle.std.proofs.Common.{◌≡◌, length}
use Rattle.hier_flatten.proofs.counting.count_names.Given as goal

abbrev pub invariant-cells : goal.invariant-cells
invariant-cells l = l.tally ≡ l.initial.tally

abbrev pub decreases-cells : goal.decreases-cells
decreases-cells l = length l.rest
