use Rattle.std.proofs.Common.{◌≡◌, length, map}
use Rattle.sdc_read.specs.declared.source.SourceBits.TheVariants as sources
use Rattle.sdc_read.specs.Objects.{over_all, with_bits}
use Rattle.sdc_read.specs.View.{bits_text}
use Rattle.sdc_read.proofs.source.source_each.Given as goal

abbrev pub invariant-list : goal.invariant-list
invariant-list l =
    over_all with_bits (map bits_text l.rest) l.bits ≡ over_all with_bits (map bits_text l.list) sources.Nothing

abbrev pub decreases-list : goal.decreases-list
decreases-list l = length l.rest
