-- The units of a library, as powers of ten of the base units: femtoseconds and attofarads.
use Rattle.std.specs.Prelude.{ℕ, List, [], ◌∷◌, codes, ℤ, pos, ◌≤ℤ◌, ◌+ℤ◌, Option, Some, None, Result, Ok, Err}
use Rattle.std.specs.Prelude.{if◌then◌else◌}
use Rattle.std.specs.Str.{bytes_eq, str_eq_ignore_ascii_case}
use Rattle.name_numbers.specs.Names.{Text}
use Rattle.xt_model.specs.declared.code.Code.TheVariants.{L8}
use Rattle.xt_number.specs.Value.{power_of}
use Rattle.liberty_groups.specs.Trees.{Entry, Tree}
use Rattle.liberty_tables.specs.declared.units.Scales.{Scales}
use Rattle.text_forms.specs.Refusals.{Meant, refuse}
use Rattle.liberty_tables.specs.Refusals.{lesser}
use Rattle.liberty_tables.specs.Search.{attribute, contents, only}

-- scales that units may give
pub record AreScales (s : Scales) : Type 0 where
  pub time_low : pos 3 ≤ℤ s.time
  pub time_high : s.time ≤ℤ pos 6
  pub cap_low : pos 0 ≤ℤ s.cap
  pub cap_high : s.cap ≤ℤ pos 9

-- a unit of time: 1 ps is 10^3 fs
abbrev pub time_scale : Text → Option ℤ
time_scale unit =
    if bytes_eq unit (codes "1ps") then Some (pos 3)
    else if bytes_eq unit (codes "10ps") then Some (pos 4)
    else if bytes_eq unit (codes "100ps") then Some (pos 5)
    else if bytes_eq unit (codes "1ns") then Some (pos 6)
    else None

-- a unit of capacitance without its number: 1 ff is 10^3 aF
abbrev pub farads : Text → Option ℤ
farads unit =
    if str_eq_ignore_ascii_case unit (codes "ff") then Some (pos 3)
    else if str_eq_ignore_ascii_case unit (codes "pf") then Some (pos 6)
    else None

-- a power of ten of a unit
abbrev pub scaled_unit : Option ℤ → Option ℤ → Option ℤ
scaled_unit (Some k) (Some unit) = Some (unit +ℤ k)
scaled_unit _ _ = None

-- a number that is a power of ten, and a unit of capacitance
abbrev pub cap_scale : List Text → Option ℤ
cap_scale (n ∷ unit ∷ []) = scaled_unit (power_of n) (farads unit)
cap_scale _ = None

-- the scale that an attribute gives, or its line
abbrev pub scale_by : Entry → Option ℤ → Result ℤ ℕ
scale_by a (Some scale) = Ok scale
scale_by a None = Err a.line

-- one value, a unit of time
abbrev pub time_by : Option Text → Option ℤ
time_by None = None
time_by (Some unit) = time_scale unit

module _ (bytes : List ℕ) where
  -- the unit of time, 1 ns where no attribute gives it
  abbrev pub time_unit : Option Entry → Result ℤ ℕ
  time_unit None = Ok (pos 6)
  time_unit (Some a) = scale_by a (time_by (only (contents bytes a)))

  -- the unit of capacitance, 1 pf where no attribute gives it
  abbrev pub cap_unit : Option Entry → Result ℤ ℕ
  cap_unit None = Ok (pos 6)
  cap_unit (Some a) = scale_by a (cap_scale (contents bytes a))

  -- both units; of two that are refused the earlier counts
  abbrev pub both_units : Result ℤ ℕ → Result ℤ ℕ → Meant Scales
  both_units (Ok t) (Ok c) = Ok (record { time = t; cap = c })
  both_units (Err line) (Ok c) = refuse line L8
  both_units (Ok t) (Err line) = refuse line L8
  both_units (Err line) (Err other) = refuse (lesser line other) L8

  -- the units of a library
  unfoldable pub units_of : Tree → Meant Scales
  units_of library =
      both_units (time_unit (attribute bytes (codes "time_unit") library))
      (cap_unit (attribute bytes (codes "capacitive_load_unit") library))
