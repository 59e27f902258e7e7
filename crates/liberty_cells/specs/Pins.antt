-- The pins of a cell.
use Rattle.std.specs.Prelude.{ℕ, List, [], ◌∷◌, ◌++◌, map, codes, ℤ, pos, int_le, Option, Some, None}
use Rattle.std.specs.Prelude.{Result, Ok, Err, if◌then◌else◌}
use Rattle.name_numbers.specs.Names.{Text}
use Rattle.xt_number.specs.declared.fault.NumberFault.{NumberFault}
use Rattle.xt_number.specs.Value.{fixed}
use Rattle.xt_model.specs.declared.code.Code.TheVariants.{L3}
use Rattle.xt_model.specs.Tables.{TableParts}
use Rattle.liberty_groups.specs.Trees.{Entry, Tree, head_of}
use Rattle.liberty_tables.specs.declared.units.Scales.{Scales}
use Rattle.xt_model.specs.Results.{◌>>=◌}
use Rattle.text_forms.specs.Refusals.{Meant, refuse, over}
use Rattle.liberty_tables.specs.Search.{attribute, contents, only}
use Rattle.liberty_tables.specs.Templates.{Templates}
use Rattle.liberty_cells.specs.declared.timing.Timing.{Timing}
use Rattle.liberty_cells.specs.declared.pin.Role.{Role}
use Rattle.liberty_cells.specs.Names.{some_names}
use Rattle.liberty_cells.specs.Kinds.{role_of}
use Rattle.liberty_cells.specs.Timings.{timings_of}

-- a pin as contracts see it: its capacitance in aF, and its timing groups in the order of the text
pub record PinParts : Type 0 where
  pub name : Text
  pub role : Role
  pub cap : ℤ
  pub timings : List Timing

-- a capacitance is 0 or more
abbrev pub cap_at : ℕ → Result ℤ NumberFault → Meant ℤ
cap_at line (Ok cap) = if int_le (pos 0) cap then Ok cap else refuse line L3
cap_at line (Err fault) = refuse line L3

abbrev pub cap_by : ℕ → ℤ → Option Text → Meant ℤ
cap_by line scale None = refuse line L3
cap_by line scale (Some number) = cap_at line (fixed number scale)

-- a pin of a group by its name; what else the group says is the same for all its pins
abbrev pub pin_named : Role → ℤ → List Timing → Text → PinParts
pin_named role cap timings name = record { name = name; role = role; cap = cap; timings = timings }

-- the tables of a library so far, and the pins of a cell so far
abbrev pub Pins : Type 0
Pins = List TableParts × List PinParts

module _ (bytes : List ℕ) where
  -- the capacitance of a pin, 0 where no attribute gives it
  abbrev pub cap_of : ℤ → Option Entry → Meant ℤ
  cap_of scale None = Ok (pos 0)
  cap_of scale (Some a) = cap_by a.line scale (only (contents bytes a))

  -- a pin group: its names come first, then its capacitance, then its timing groups; each name is a pin
  unfoldable pub add_pins : Scales → Templates → Tree → Pins → Meant Pins
  add_pins scales templates t s = do
    names ← some_names (head_of t).line (contents bytes (head_of t))
    cap ← cap_of scales.cap (attribute bytes (codes "capacitance") t)
    x ← timings_of bytes scales templates (role_of bytes (attribute bytes (codes "direction") t)) t s.0
    Ok (x.0, s.1 ++ map (pin_named (role_of bytes (attribute bytes (codes "direction") t)) cap x.1) names)
