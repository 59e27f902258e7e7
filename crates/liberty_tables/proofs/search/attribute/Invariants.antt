use Rattle.std.proofs.Common.{◌≡◌, length, map, option_map}
use Rattle.liberty_groups.specs.Trees.{tree_of, entry_of}
use Rattle.liberty_tables.specs.Search.{last_named, attribute}
use Rattle.liberty_tables.proofs.search.attribute.Given as goal

abbrev pub invariant-attributes : goal.invariant-attributes
invariant-attributes l =
    last_named l.bytes l.word (option_map (λ a. entry_of a.now) l.seen) (map entry_of l.rest)
    ≡ attribute l.bytes l.word (tree_of l.group)

abbrev pub decreases-attributes : goal.decreases-attributes
decreases-attributes l = length l.rest
