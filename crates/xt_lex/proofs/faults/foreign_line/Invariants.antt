use Rattle.std.proofs.Common.{◌≡◌, ◌+◌, ◌≤◌, length}
use Rattle.xt_lex.specs.Faults.{foreign_line}
use Rattle.xt_lex.proofs.faults.foreign_line.Given as goal

abbrev pub invariant-bytes : goal.invariant-bytes
invariant-bytes l = record {
  value : foreign_line l.here l.rest ≡ foreign_line l.line l.bytes;
  bound : l.here + length l.rest ≤ l.line + length l.bytes;
}

abbrev pub decreases-bytes : goal.decreases-bytes
decreases-bytes l = length l.rest
