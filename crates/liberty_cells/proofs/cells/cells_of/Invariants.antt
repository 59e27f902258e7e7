use Rattle.std.proofs.Common.{◌≡◌, length}
use Rattle.std.specs.Prelude.{codes}
use Rattle.liberty_groups.specs.Trees.{tree_of}
use Rattle.text_forms.specs.Refusals.{over}
use Rattle.liberty_tables.specs.Search.{named_among}
use Rattle.liberty_cells.specs.Cells.{names_of, add_cell, cells_of}
use Rattle.liberty_cells.proofs.cells.cells_of.Given as goal

abbrev pub invariant-cells : goal.invariant-cells
invariant-cells l = record {
  seen : names_of l.cells.items ≡ l.seen;
  exact : over (add_cell l.text.bytes.now l.text.scales l.text.templates.now) (named_among l.text.bytes.now (codes "cell") l.rest)
      (l.tables.items, l.cells.items)
      ≡ cells_of l.text.bytes.now l.text.scales l.text.templates.now (tree_of l.library);
}

abbrev pub decreases-cells : goal.decreases-cells
decreases-cells l = length (named_among l.text.bytes.now (codes "cell") l.rest)
