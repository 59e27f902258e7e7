-- Where cells and pins stand, by name.
use Rattle.std.specs.Prelude.{◌≡◌, ℕ, List, Option, Some, None, IfSome, position, bytes_eq}
use Rattle.std.specs.List.{slice_get}
use Rattle.name_numbers.specs.Names.{Text, value_of}
use Rattle.liberty_cells.specs.declared.cell.Cell.{Cell}
use Rattle.liberty_cells.specs.declared.library.Library.{Library}
use Rattle.liberty_cells.specs.Pins.{PinParts}
use Rattle.link_index.specs.declared.pin_places.PinPlaces.{PinPlaces}

-- what stands at a place, if there is one
abbrev pub at_place : {A : Type 0} → List A → Option ℕ → Option A
at_place xs None = None
at_place xs (Some place) = slice_get xs place

-- where the first cell of a name stands in a library, and the first pin of a name in a cell
abbrev pub cell_place : Library → Text → Option ℕ
cell_place library name = position (λ c. bytes_eq name c.name) library.cells

abbrev pub pin_place : Cell → Text → Option ℕ
pin_place cell name = position (λ p. bytes_eq name p.name) cell.pins

-- each name has the place of the first pin of this name
pub record HavePlaces (pins : List PinParts) (places : List (Text × ℕ)) : Type 0 where
  pub each : (name : Text) → value_of name places ≡ position (λ p. bytes_eq name p.name) pins

-- each name has the place of the first cell of this name
pub record HaveCellPlaces (cells : List Cell) (places : List (Text × ℕ)) : Type 0 where
  pub each : (name : Text) → value_of name places ≡ position (λ c. bytes_eq name c.name) cells

-- what is kept of the pins of a cell: of many pins a table
abbrev pub ArePlaced : List PinParts → PinPlaces → Type 0
ArePlaced pins p = IfSome p.table (λ t. HavePlaces pins t.value)
