use Rattle.std.proofs.Common.{◌≡◌, length, map}
use Rattle.std.specs.List.{list_all}
use Rattle.sdc_words.specs.View.{word_text}
use Rattle.sdc_forms.specs.declared.slot.Slot.TheVariants as slots
use Rattle.sdc_forms.specs.Options.{fits}
use Rattle.sdc_forms.proofs.arranged.all_objects.Given as goal

abbrev pub invariant-words : goal.invariant-words
invariant-words l =
    list_all (fits slots.Objects) (map word_text l.rest) ≡ list_all (fits slots.Objects) (map word_text l.words)

abbrev pub decreases-words : goal.decreases-words
decreases-words l = length l.rest
