use Rattle.std.proofs.Common.{◌≡◌, ◌+◌, length}
use Rattle.xt_lex.specs.Runs.{past_byte, further}
use Rattle.xt_lex.proofs.runs.past_byte.Given as goal

abbrev pub invariant-bytes : goal.invariant-bytes
invariant-bytes l = record {
  value : further l.passed (past_byte l.last l.rest) ≡ past_byte l.last l.bytes;
  room : l.passed + length l.rest ≡ length l.bytes;
}

abbrev pub decreases-bytes : goal.decreases-bytes
decreases-bytes l = length l.rest
