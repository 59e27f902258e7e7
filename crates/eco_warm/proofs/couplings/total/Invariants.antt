use Rattle.std.proofs.Common.{◌≡◌, ◌*◌, ◌^◌, drop, pos, ◌+ℤ◌, ◌≤ℤ◌}
use Rattle.eco_warm.specs.Edits.{total}
use Rattle.eco_warm.proofs.couplings.total.Given as goal

abbrev pub invariant-loop-coef : goal.invariant-loop-coef
invariant-loop-coef l = record {
  rest : (l.sum +ℤ total (drop l.coef-index l.coefs)) ≡ total l.coefs;
  low : pos 0 ≤ℤ l.sum;
  high : l.sum ≤ℤ pos (2 ^ 102 * l.coef-index);
}
