use Rattle.std.proofs.Common.{◌≡◌, ◌+◌, length, false}
use Rattle.xt_lex.specs.Sdc.{bare_word}
use Rattle.xt_lex.proofs.sdc.word_rest.Given as goal

abbrev pub invariant-bytes : goal.invariant-bytes
invariant-bytes l = record {
  value : l.passed + bare_word l.in_bit l.rest ≡ bare_word false l.bytes;
  room : l.passed + length l.rest ≡ length l.bytes;
}

abbrev pub decreases-bytes : goal.decreases-bytes
decreases-bytes l = length l.rest
