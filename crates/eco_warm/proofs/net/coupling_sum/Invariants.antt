use Rattle.std.proofs.Common.{◌≡◌, ◌*◌, ◌^◌, drop, pos, neg_ℤ, ◌+ℤ◌, ◌≤ℤ◌}
use Rattle.xt_model.specs.Sound.{coupling_sum}
use Rattle.eco_warm.proofs.net.coupling_sum.Given as goal

abbrev pub invariant-loop-coupling : goal.invariant-loop-coupling
invariant-loop-coupling l = record {
  rest : (l.sum +ℤ coupling_sum (drop l.coupling-index l.couplings)) ≡ coupling_sum l.couplings;
  low : neg_ℤ (pos (2 ^ 63 * l.coupling-index)) ≤ℤ l.sum;
  high : l.sum ≤ℤ pos (2 ^ 63 * l.coupling-index);
}
