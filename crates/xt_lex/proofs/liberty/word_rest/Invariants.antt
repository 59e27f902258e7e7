use Rattle.std.proofs.Common.{◌≡◌, ◌+◌, length}
use Rattle.xt_lex.specs.Liberty.{liberty_word}
use Rattle.xt_lex.proofs.liberty.word_rest.Given as goal

abbrev pub invariant-bytes : goal.invariant-bytes
invariant-bytes l = record {
  value : l.passed + liberty_word l.rest ≡ liberty_word l.bytes;
  room : l.passed + length l.rest ≡ length l.bytes;
}

abbrev pub decreases-bytes : goal.decreases-bytes
decreases-bytes l = length l.rest
