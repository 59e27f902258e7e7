use Rattle.std.proofs.Common.{◌*◌, ◌^◌, pos, neg_ℤ, ◌≤ℤ◌}
use Rattle.glitch_noise.proofs.Sweeping.{IsSweptTo}
use Rattle.glitch_noise.proofs.sweep.sweep.Given as goal

abbrev pub invariant-loop-number : goal.invariant-loop-number
invariant-loop-number l = record {
  swept : IsSweptTo l.changes l.number l.sum l.best.sum l.best.moment;
  low : neg_ℤ (pos (2 ^ 63 * l.number)) ≤ℤ l.sum;
  high : l.sum ≤ℤ pos (2 ^ 63 * l.number);
}
