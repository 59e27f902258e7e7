use Rattle.std.proofs.Common.{◌≡◌, [], length}
use Rattle.sdc_words.specs.Items.{items_from}
use Rattle.sdc_read.specs.declared.source.SourceBits.TheVariants as sources
use Rattle.sdc_read.specs.Objects.{source_names}
use Rattle.sdc_read.proofs.source.source_many.Given as goal

abbrev pub invariant-names : goal.invariant-names
invariant-names l =
    source_names l.netlist (items_from [] l.rest) l.bits
    ≡ source_names l.netlist (items_from [] l.names) sources.Nothing

abbrev pub decreases-names : goal.decreases-names
decreases-names l = length (items_from [] l.rest)
