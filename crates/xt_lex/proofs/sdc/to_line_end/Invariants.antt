use Rattle.std.proofs.Common.{◌≡◌, ◌+◌, length, false}
use Rattle.xt_lex.specs.Sdc.{to_command_line_end}
use Rattle.xt_lex.proofs.sdc.to_line_end.Given as goal

abbrev pub invariant-bytes : goal.invariant-bytes
invariant-bytes l = record {
  value : l.passed + to_command_line_end l.joined l.rest ≡ to_command_line_end false l.bytes;
  room : l.passed + length l.rest ≡ length l.bytes;
}

abbrev pub decreases-bytes : goal.decreases-bytes
decreases-bytes l = length l.rest
