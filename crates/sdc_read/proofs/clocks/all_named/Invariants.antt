use Rattle.std.proofs.Common.{◌≡◌, [], length}
use Rattle.std.specs.List.{list_all}
use Rattle.std.specs.Str.{bytes_eq}
use Rattle.sdc_words.specs.Items.{items_from}
use Rattle.sdc_read.proofs.clocks.all_named.Given as goal

abbrev pub invariant-names : goal.invariant-names
invariant-names l = list_all (bytes_eq l.name) (items_from [] l.rest) ≡ list_all (bytes_eq l.name) (items_from [] l.names)

abbrev pub decreases-names : goal.decreases-names
decreases-names l = length (items_from [] l.rest)
