use Rattle.std.proofs.Common.{◌≡◌, ◌+◌, ◌≤◌, length}
use Rattle.xt_lex.specs.Bytes.{line_behind}
use Rattle.xt_lex.proofs.bytes.line_behind.Given as goal

abbrev pub invariant-bytes : goal.invariant-bytes
invariant-bytes l = record {
  value : line_behind l.rest l.behind ≡ line_behind l.bytes l.line;
  bound : l.behind + length l.rest ≤ l.line + length l.bytes;
}

abbrev pub decreases-bytes : goal.decreases-bytes
decreases-bytes l = length l.rest
