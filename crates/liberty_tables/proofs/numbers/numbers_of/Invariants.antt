use Rattle.std.proofs.Common.{◌≡◌, length, map}
use Rattle.std.specs.Prelude.{flat_map}
use Rattle.liberty_groups.specs.Trees.{entry_of}
use Rattle.liberty_tables.specs.Contents.{content, numbers_in}
use Rattle.liberty_tables.specs.Numbers.{all_fixed, behind, numbers_of}
use Rattle.liberty_tables.proofs.numbers.numbers_of.Given as goal

abbrev pub invariant-values : goal.invariant-values
invariant-values l =
    behind l.numbers (all_fixed l.scale (flat_map numbers_in (map (content l.bytes) l.rest)))
    ≡ numbers_of l.bytes l.scale (entry_of l.attribute)

abbrev pub decreases-values : goal.decreases-values
decreases-values l = length l.rest
