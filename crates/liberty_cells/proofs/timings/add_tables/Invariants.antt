use Rattle.std.proofs.Common.{◌≡◌, length, map}
use Rattle.liberty_groups.specs.Trees.{tree_of, groups_of}
use Rattle.text_forms.specs.Refusals.{over}
use Rattle.liberty_cells.specs.Timings.{add_table}
use Rattle.liberty_cells.proofs.timings.add_tables.Given as goal

abbrev pub invariant-tables : goal.invariant-tables
invariant-tables l =
    over (add_table l.text.bytes.now l.is_delay l.text.scales l.text.templates.now) (map tree_of l.rest) (l.tables.items, l.timing)
    ≡ over (add_table l.text.bytes.now l.is_delay l.text.scales l.text.templates.now) (groups_of (tree_of l.group)) (l.fn.tables.items, l.fn.timing)

abbrev pub decreases-tables : goal.decreases-tables
decreases-tables l = length l.rest
