-- The cells of a library.
use Rattle.std.specs.Prelude.{ℕ, Bool, List, [], ◌∷◌, ◌++◌, map, codes, Ok, if◌then◌else◌}
use Rattle.name_numbers.specs.Names.{Text, has_name}
use Rattle.xt_model.specs.declared.code.Code.TheVariants.{L7}
use Rattle.xt_model.specs.Tables.{TableParts}
use Rattle.liberty_groups.specs.Trees.{Tree, head_of}
use Rattle.liberty_tables.specs.declared.units.Scales.{Scales}
use Rattle.xt_model.specs.Results.{◌>>=◌}
use Rattle.text_forms.specs.Refusals.{Meant, refuse, over}
use Rattle.liberty_tables.specs.Search.{groups_named, has_group}
use Rattle.liberty_tables.specs.Templates.{Templates, only_name}
use Rattle.liberty_cells.specs.declared.cell.Cell.{Cell}
use Rattle.liberty_cells.specs.Pins.{Pins, add_pins}

-- the tables of a library so far, and its cells so far
abbrev pub Cells : Type 0
Cells = List TableParts × List Cell

-- the names of cells
abbrev pub names_of : List Cell → List Text
names_of cells = map (λ c. c.name) cells

-- a name that no cell has yet
abbrev pub new_name : ℕ → Text → List Cell → Meant Text
new_name line name cells = if has_name name (names_of cells) then refuse line L7 else Ok name

module _ (bytes : List ℕ) where
  -- the pins of a cell, in the order of the text, behind the tables so far
  unfoldable pub pins_of : Scales → Templates → Tree → List TableParts → Meant Pins
  pins_of scales templates t tables =
      over (add_pins bytes scales templates) (groups_named bytes (codes "pin") t) (tables, [])

  -- one more cell: its name comes first, then its pins
  unfoldable pub add_cell : Scales → Templates → Tree → Cells → Meant Cells
  add_cell scales templates t s = do
    given ← only_name bytes t
    name ← new_name (head_of t).line given s.1
    x ← pins_of scales templates t s.0
    Ok (x.0, s.1 ++ record { name = name; pins = x.1; latch = has_group bytes (codes "latch") t } ∷ [])

  -- the cells of a library, in the order of the text, and its tables
  unfoldable pub cells_of : Scales → Templates → Tree → Meant Cells
  cells_of scales templates library =
      over (add_cell scales templates) (groups_named bytes (codes "cell") library) ([], [])
