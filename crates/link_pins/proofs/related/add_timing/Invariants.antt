use Rattle.std.proofs.Common.{◌≡◌, ◌++◌, map, length, Some}
use Rattle.std.specs.Prelude.{filter_map}
use Rattle.std.specs.List.{slice_get}
use Rattle.liberty_cells.specs.declared.cell.Cell.{Cell}
use Rattle.link_index.specs.Cells.{pin_place}
use Rattle.link_pins.specs.Timed.{with_timing}
use Rattle.link_pins.proofs.related.add_timing.Given as goal

abbrev pub invariant-related : goal.invariant-related
invariant-related l = record {
  timings : l.pins.timings ≡ l.fn.pins.timings;
  related : (c : Cell) → slice_get l.cells.cells l.cell ≡ Some c
      → l.pins.items ++ map (with_timing l.timing) (filter_map (pin_place c) l.rest)
      ≡ l.fn.pins.items ++ map (with_timing l.timing) (filter_map (pin_place c) l.timing.related);
}

abbrev pub decreases-related : goal.decreases-related
decreases-related l = length l.rest
