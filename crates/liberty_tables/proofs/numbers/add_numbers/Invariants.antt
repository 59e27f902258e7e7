use Rattle.std.proofs.Common.{◌≡◌, [], length, true}
use Rattle.liberty_tables.specs.Contents.{items_from}
use Rattle.liberty_tables.specs.Numbers.{all_fixed, behind}
use Rattle.liberty_tables.proofs.numbers.add_numbers.Given as goal

abbrev pub invariant-items : goal.invariant-items
invariant-items l =
    behind l.numbers (all_fixed l.scale (items_from true [] l.rest))
    ≡ behind l.fn.numbers (all_fixed l.scale (items_from true [] l.text))

abbrev pub decreases-items : goal.decreases-items
decreases-items l = length (items_from true [] l.rest)
