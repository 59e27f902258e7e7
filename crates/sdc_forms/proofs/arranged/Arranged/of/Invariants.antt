use Rattle.std.proofs.Common.{◌≡◌, length, map}
use Rattle.sdc_words.specs.View.{word_text}
use Rattle.sdc_forms.specs.Arranged.{arranged_from, nothing}
use Rattle.sdc_forms.proofs.arranged.Arranged.of.Given as goal

abbrev pub invariant-words : goal.invariant-words
invariant-words l =
    arranged_from l.command (map word_text l.rest) l.arranged ≡ arranged_from l.command (map word_text l.words) nothing

abbrev pub decreases-words : goal.decreases-words
decreases-words l = length l.rest
