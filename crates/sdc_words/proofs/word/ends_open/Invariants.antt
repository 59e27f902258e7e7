use Rattle.std.proofs.Common.{◌≡◌, length, false}
use Rattle.sdc_words.specs.Words.{ends_open}
use Rattle.sdc_words.proofs.word.ends_open.Given as goal

abbrev pub invariant-bytes : goal.invariant-bytes
invariant-bytes l = ends_open l.open_bit l.rest ≡ ends_open false l.text

abbrev pub decreases-bytes : goal.decreases-bytes
decreases-bytes l = length l.rest
