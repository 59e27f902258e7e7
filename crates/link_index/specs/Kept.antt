-- What an index of a library keeps.
use Rattle.std.specs.Prelude.{◌≡◌, ℕ, List}
use Rattle.std.specs.List.{AllZip}
use Rattle.name_numbers.specs.Names.{Text}
use Rattle.liberty_cells.specs.declared.cell.Cell.{Cell}
use Rattle.liberty_cells.specs.declared.library.Library.{Library}
use Rattle.link_rules.specs.Refusals.{is_odd_cell}
use Rattle.link_index.specs.declared.places.CellPlaces.{CellPlaces}
use Rattle.link_index.specs.Cells.{HaveCellPlaces, ArePlaced}

-- the places of a cell's pins, and whether the cell is not taken
pub record IsKept (cell : Cell) (kept : CellPlaces) : Type 0 where
  pub pins : ArePlaced cell.pins kept.pins
  pub odd : kept.odd ≡ is_odd_cell cell

-- the places of the cells, and what is kept of each
pub record IsCellIndex (library : Library) (places : List (Text × ℕ)) (kept : List CellPlaces) : Type 0 where
  pub cells : HaveCellPlaces library.cells places
  pub each : AllZip IsKept library.cells kept
