use Rattle.std.proofs.Common.{◌≡◌, length, Some}
use Rattle.std.specs.List.{slice_get}
use Rattle.liberty_cells.specs.declared.cell.Cell.{Cell}
use Rattle.link_pins.specs.Related.{AreGroups}
use Rattle.link_pins.proofs.related.CellGroups.of_cell.Given as goal

abbrev pub invariant-loop-place : goal.invariant-loop-place
invariant-loop-place l = record {
  count : length l.groups.of.items ≡ l.place;
  groups : (c : Cell) → slice_get l.cells.cells l.cell ≡ Some c → AreGroups c l.groups;
}
