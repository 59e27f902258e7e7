use Rattle.std.proofs.Common.{◌≡◌, [], length}
use Rattle.std.specs.List.{list_all}
use Rattle.sdc_words.specs.Items.{items_from}
use Rattle.sdc_forms.specs.Options.{is_short}
use Rattle.sdc_forms.proofs.slot.all_short.Given as goal

abbrev pub invariant-names : goal.invariant-names
invariant-names l = list_all is_short (items_from [] l.rest) ≡ list_all is_short (items_from [] l.names)

abbrev pub decreases-names : goal.decreases-names
decreases-names l = length (items_from [] l.rest)
