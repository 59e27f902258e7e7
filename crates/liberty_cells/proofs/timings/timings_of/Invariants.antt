use Rattle.std.proofs.Common.{◌≡◌, length}
use Rattle.std.specs.Prelude.{codes}
use Rattle.liberty_groups.specs.Trees.{tree_of}
use Rattle.text_forms.specs.Refusals.{over}
use Rattle.liberty_tables.specs.Search.{named_among}
use Rattle.liberty_cells.specs.Timings.{add_timing, timings_of}
use Rattle.liberty_cells.proofs.timings.timings_of.Given as goal

abbrev pub invariant-timings : goal.invariant-timings
invariant-timings l =
    over (add_timing l.text.bytes.now l.text.scales l.text.templates.now l.role) (named_among l.text.bytes.now (codes "timing") l.rest)
    (l.tables.items, l.timings.items)
    ≡ timings_of l.text.bytes.now l.text.scales l.text.templates.now l.role (tree_of l.group) l.fn.tables.items

abbrev pub decreases-timings : goal.decreases-timings
decreases-timings l = length (named_among l.text.bytes.now (codes "timing") l.rest)
