use Rattle.std.proofs.Common.{◌≡◌, ◌+◌, ◌-◌, ◌≤◌, length, drop, false}
use Rattle.xt_lex.specs.Runs.{further}
use Rattle.xt_lex.specs.Liberty.{past_quote}
use Rattle.xt_lex.proofs.liberty.past_quote.Given as goal

abbrev pub invariant-marks : goal.invariant-marks
invariant-marks l = record {
  value : further l.passed (past_quote false (drop l.passed l.bytes)) ≡ past_quote false l.bytes;
  room : l.passed ≤ length l.bytes + 1;
}

abbrev pub decreases-marks : goal.decreases-marks
decreases-marks l = length l.bytes + 1 - l.passed
