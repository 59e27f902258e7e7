use Rattle.std.proofs.Common.{◌≡◌, ◌-◌, ◌≤◌, length, drop}
use Rattle.xt_lex.specs.Pieces.{pieces_of}
use Rattle.xt_lex.specs.Faults.{any_unclosed}
use Rattle.xt_lex.proofs.Open.{is_left_open}
use Rattle.xt_lex.proofs.unclosed.piece_unclosed.Given as goal

abbrev pub invariant-pieces : goal.invariant-pieces
invariant-pieces l = record {
  within : l.passed ≤ length l.bytes;
  value : is_left_open l.fn.rules l.fresh 0 (drop l.passed l.bytes) ≡ any_unclosed (pieces_of l.fn.rules l.bytes);
}

abbrev pub decreases-pieces : goal.decreases-pieces
decreases-pieces l = length l.bytes - l.passed
