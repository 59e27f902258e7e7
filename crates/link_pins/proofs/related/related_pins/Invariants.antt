use Rattle.std.proofs.Common.{◌≡◌, take, Some}
use Rattle.std.specs.Prelude.{flat_map}
use Rattle.std.specs.List.{slice_get}
use Rattle.liberty_cells.specs.declared.cell.Cell.{Cell}
use Rattle.link_pins.specs.Related.{group_related}
use Rattle.link_pins.proofs.related.related_pins.Given as goal

abbrev pub invariant-loop-number : goal.invariant-loop-number
invariant-loop-number l = record {
  timings : l.pins.timings ≡ l.part.timings;
  related : (c : Cell) → slice_get l.cells.cells l.cell ≡ Some c → l.pins.items ≡ flat_map (group_related c l.part.role) (take l.number l.part.timings);
}
