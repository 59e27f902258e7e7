-- The library that a Liberty text means.
use Rattle.std.specs.Prelude.{ℕ, List, Ok}
use Rattle.liberty_groups.specs.Trees.{Tree}
use Rattle.liberty_groups.specs.Library.{library_of}
use Rattle.xt_model.specs.Results.{◌>>=◌}
use Rattle.text_forms.specs.Refusals.{Meant}
use Rattle.liberty_tables.specs.Units.{units_of}
use Rattle.liberty_tables.specs.Templates.{templates_of}
use Rattle.liberty_cells.specs.declared.library.Library.{Library}
use Rattle.liberty_cells.specs.Cells.{cells_of}

module _ (bytes : List ℕ) where
  -- what the groups of a library mean: the units come first, then the templates, then the cells
  unfoldable pub library_in : Tree → Meant Library
  library_in t = do
    scales ← units_of bytes t
    templates ← templates_of bytes scales t
    x ← cells_of bytes scales templates t
    Ok (record { time_scale = scales.time; cap_scale = scales.cap; tables = x.0; cells = x.1 })

  -- what a text means: its groups come first
  unfoldable pub library_meant : Meant Library
  library_meant = do
    t ← library_of bytes
    library_in t
