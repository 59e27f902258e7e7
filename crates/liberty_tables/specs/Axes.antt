-- The axes of a table: each has a variable and an index.
use Rattle.std.specs.Prelude.{ℕ, Bool, true, false, List, codes, ℤ, Option, Some, None, if◌then◌else◌}
use Rattle.std.specs.Str.{bytes_eq}
use Rattle.std.specs.Option.{option_or}
use Rattle.name_numbers.specs.Names.{Text}
use Rattle.liberty_groups.specs.Trees.{Entry}
use Rattle.liberty_tables.specs.declared.units.Scales.{Scales}
use Rattle.liberty_tables.specs.declared.axis.Side.{Side}
use Rattle.liberty_tables.specs.declared.axis.Side.TheVariants.{Rows, Columns, Misfit}
use Rattle.liberty_tables.specs.declared.axis.Variable.{Variable}
use Rattle.liberty_tables.specs.declared.axis.Index.{Index}
use Rattle.liberty_tables.specs.declared.axis.Axis.{Axis}
use Rattle.liberty_tables.specs.Search.{contents, only}
use Rattle.liberty_tables.specs.Numbers.{numbers_of}

-- what a variable of a delay table measures
abbrev pub delay_side : Text → Side
delay_side variable =
    if bytes_eq variable (codes "input_net_transition") then Rows
    else if bytes_eq variable (codes "total_output_net_capacitance") then Columns
    else Misfit

-- what a variable of a check's table measures
abbrev pub check_side : Text → Side
check_side variable =
    if bytes_eq variable (codes "related_pin_transition") then Rows
    else if bytes_eq variable (codes "constrained_pin_transition") then Columns
    else Misfit

-- what a variable measures: those of delays and those of checks differ
abbrev pub side_named : Bool → Text → Side
side_named true variable = delay_side variable
side_named false variable = check_side variable

-- several words are no variable
abbrev pub side_by : Bool → Option Text → Side
side_by is_delay None = Misfit
side_by is_delay (Some variable) = side_named is_delay variable

-- both measure rows, or both columns
abbrev pub is_same_side : Side → Side → Bool
is_same_side Rows Rows = true
is_same_side Columns Columns = true
is_same_side _ _ = false

-- what a second axis measures behind a first: the same variable does not fit again
abbrev pub second_variable : Option Variable → Option Variable → Option Variable
second_variable (Some a) (Some b) = Some (record b { side = if is_same_side a.side b.side then Misfit else b.side })
second_variable _ b = b

-- loads are capacitances, all else times
abbrev pub side_scale : Bool → Scales → Side → ℤ
side_scale true scales Columns = scales.cap
side_scale _ scales _ = scales.time

-- the scale of the numbers along an axis
abbrev pub axis_scale : Bool → Scales → Option Variable → ℤ
axis_scale is_delay scales None = scales.time
axis_scale is_delay scales (Some v) = side_scale is_delay scales v.side

module _ (bytes : List ℕ) where
  -- what the variable of an attribute measures
  abbrev pub variable_by : Bool → Option Entry → Option Variable
  variable_by is_delay None = None
  variable_by is_delay (Some a) = Some (record { line = a.line; side = side_by is_delay (only (contents bytes a)) })

  -- the index that an attribute gives
  abbrev pub index_by : ℤ → Option Entry → Option Index
  index_by scale None = None
  index_by scale (Some a) = Some (record { line = a.line; numbers = numbers_of bytes scale a })

  -- an axis by its variable and the attribute of its index
  unfoldable pub axis_by : Bool → Scales → Option Variable → Option Entry → Axis
  axis_by is_delay scales variable index =
      record { variable = variable; index = index_by (axis_scale is_delay scales variable) index }

  -- an axis of a table: the table's own index replaces the template's
  unfoldable pub own_axis : Bool → Scales → Option Entry → Axis → Axis
  own_axis is_delay scales own axis = record {
    variable = axis.variable;
    index = option_or (index_by (axis_scale is_delay scales axis.variable) own) axis.index;
  }
