use Rattle.std.proofs.Common.{◌≡◌, length}
use Rattle.std.specs.Prelude.{codes}
use Rattle.liberty_groups.specs.Trees.{tree_of}
use Rattle.text_forms.specs.Refusals.{over}
use Rattle.liberty_tables.specs.Search.{named_among}
use Rattle.liberty_cells.specs.Pins.{add_pins}
use Rattle.liberty_cells.specs.Cells.{pins_of}
use Rattle.liberty_cells.specs.Firsts.{AreFirsts}
use Rattle.liberty_cells.proofs.pins.pins_of.Given as goal

abbrev pub invariant-pins : goal.invariant-pins
invariant-pins l = record {
  exact : over (add_pins l.text.bytes.now l.text.scales l.text.templates.now) (named_among l.text.bytes.now (codes "pin") l.rest)
      (l.tables.items, l.pins.items)
      ≡ pins_of l.text.bytes.now l.text.scales l.text.templates.now (tree_of l.group) l.fn.tables.items;
  firsts : AreFirsts l.pins.items l.firsts.items;
}

abbrev pub decreases-pins : goal.decreases-pins
decreases-pins l = length (named_among l.text.bytes.now (codes "pin") l.rest)
