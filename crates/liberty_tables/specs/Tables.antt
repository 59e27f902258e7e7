-- The tables of a library.
use Rattle.std.specs.Prelude.{ℕ, ◌+◌, ◌*◌, Bool, true, false, not, ◌&&◌, ◌||◌, ◌==◌, nat_lt}
use Rattle.std.specs.Prelude.{List, [], ◌∷◌, length, map, flat_map, codes}
use Rattle.std.specs.Prelude.{ℤ, pos, int_lt, Option, Some, None, Ok, if◌then◌else◌}
use Rattle.std.specs.List.{slice_index_or, range_with_len}
use Rattle.name_numbers.specs.Names.{Text}
use Rattle.xt_model.specs.declared.code.Code.TheVariants.{L3, L4, L5, L6}
use Rattle.xt_model.specs.Tables.{TableParts}
use Rattle.liberty_groups.specs.Trees.{Entry, Tree, head_of}
use Rattle.liberty_tables.specs.declared.units.Scales.{Scales}
use Rattle.liberty_tables.specs.declared.axis.Side.{Side}
use Rattle.liberty_tables.specs.declared.axis.Side.TheVariants.{Rows, Columns, Misfit}
use Rattle.liberty_tables.specs.declared.axis.Variable.{Variable}
use Rattle.liberty_tables.specs.declared.axis.Index.{Index}
use Rattle.liberty_tables.specs.declared.axis.Axis.{Axis}
use Rattle.liberty_tables.specs.declared.axis.Axes.{Axes}
use Rattle.liberty_tables.specs.declared.template.Template.{Template}
use Rattle.text_forms.specs.Refusals.{Meant, refuse}
use Rattle.liberty_tables.specs.Refusals.{earlier, unless_at}
use Rattle.liberty_tables.specs.Search.{attribute, contents, only}
use Rattle.liberty_tables.specs.Numbers.{numbers_of}
use Rattle.liberty_tables.specs.Axes.{own_axis}
use Rattle.liberty_tables.specs.Templates.{Templates, axes_for, template_named}

-- of values that stand in rows of some length, the one of a column and a row
abbrev pub value_at : ℕ → List ℤ → ℕ → ℕ → ℤ
value_at columns values column row = slice_index_or values (row * columns + column) (pos 0)

-- a column of such values
abbrev pub column_of : ℕ → ℕ → List ℤ → ℕ → List ℤ
column_of rows columns values column = map (value_at columns values column) (range_with_len 0 rows)

-- such values column by column
abbrev pub by_columns : ℕ → ℕ → List ℤ → List ℤ
by_columns rows columns values = flat_map (column_of rows columns values) (range_with_len 0 columns)

-- a side, and what an axis measures
abbrev pub is_column_side : Side → Bool
is_column_side Columns = true
is_column_side _ = false

abbrev pub is_row_side : Side → Bool
is_row_side Rows = true
is_row_side _ = false

abbrev pub is_columns : Option Variable → Bool
is_columns None = false
is_columns (Some v) = is_column_side v.side

abbrev pub is_rows : Option Variable → Bool
is_rows None = false
is_rows (Some v) = is_row_side v.side

-- the values go along columns first: the first axis is columns, or the second is rows
abbrev pub is_turned : Option Variable → Option Variable → Bool
is_turned first second = is_columns first || is_rows second

-- the table of two axes, the first of which is the outer one of the values: rows are slews, columns are loads
abbrev pub arranged : Bool → List ℤ → List ℤ → List ℤ → TableParts
arranged false outer inner values = record { slews = outer; loads = inner; values = values }
arranged true outer inner values =
    record { slews = inner; loads = outer; values = by_columns (length outer) (length inner) values }

-- the numbers of an index, where none is refused; a missing index is 0 alone
abbrev pub index_numbers : Option Index → Option (List ℤ)
index_numbers None = Some (pos 0 ∷ [])
index_numbers (Some index) = index.numbers

-- the line of an index, where there is one
abbrev pub index_line : Option Index → Option ℕ
index_line None = None
index_line (Some index) = Some index.line

-- each number is less than the next
abbrev pub is_increasing : List ℤ → Bool
is_increasing [] = true
is_increasing (x ∷ []) = true
is_increasing (x ∷ y ∷ more) = if int_lt x y then is_increasing (y ∷ more) else false

-- an index has 1 to 64 numbers
abbrev pub is_sized : List ℤ → Bool
is_sized xs = nat_lt 0 (length xs) && nat_lt (length xs) 65

-- an index that a table may have
abbrev pub is_index : List ℤ → Bool
is_index xs = is_sized xs && is_increasing xs

-- the line of a fault, where it stands
abbrev pub line_if : Bool → Option ℕ → Option ℕ
line_if true line = line
line_if false line = None

-- the line of a variable that fits nothing
abbrev pub misfit_at : ℕ → Side → Option ℕ
misfit_at line Misfit = Some line
misfit_at line _ = None

-- a variable without an index, an index without a variable, or a variable that does not fit: at its line
abbrev pub pairing_fault : Option Variable → Option Index → Option ℕ
pairing_fault None None = None
pairing_fault None (Some index) = Some index.line
pairing_fault (Some v) None = Some v.line
pairing_fault (Some v) (Some index) = misfit_at v.line v.side

-- the line of numbers that are refused
abbrev pub refused_at : Option ℕ → Option (List ℤ) → Option ℕ
refused_at line None = line
refused_at line (Some xs) = None

-- numbers of which none was refused
abbrev pub numbers_or_none : Option (List ℤ) → List ℤ
numbers_or_none (Some xs) = xs
numbers_or_none None = []

-- the faults of one axis: a number that is refused, numbers that do not increase, and what else does not fit
abbrev pub number_fault : Axis → Option ℕ
number_fault axis = refused_at (index_line axis.index) (index_numbers axis.index)

abbrev pub axis_numbers : Axis → List ℤ
axis_numbers axis = numbers_or_none (index_numbers axis.index)

abbrev pub order_fault : Axis → Option ℕ
order_fault axis = line_if (not (is_increasing (axis_numbers axis))) (index_line axis.index)

abbrev pub shape_fault : Axis → Option ℕ
shape_fault axis =
    earlier (pairing_fault axis.variable axis.index)
    (line_if (not (is_sized (axis_numbers axis))) (index_line axis.index))

-- a wrong number of values
abbrev pub count_fault : ℕ → Axis → Axis → List ℤ → Option ℕ
count_fault line first second values =
    line_if (not (length values == length (axis_numbers first) * length (axis_numbers second))) (Some line)

-- the faults of a table whose values stand at a line: a number that is refused, and what does not fit
abbrev pub table_number_fault : Axes → ℕ → Option (List ℤ) → Option ℕ
table_number_fault axes line values =
    earlier (earlier (number_fault axes.first) (number_fault axes.second)) (refused_at (Some line) values)

abbrev pub table_shape_fault : Axes → ℕ → List ℤ → Option ℕ
table_shape_fault axes line values =
    earlier (earlier (shape_fault axes.first) (shape_fault axes.second))
    (count_fault line axes.first axes.second values)

-- a table of two axes and of values at a line: a number that is refused comes first, then an index that does not
-- increase, then an index of a bad size, an axis that does not fit and a wrong number of values
unfoldable pub table_by : Axes → ℕ → Option (List ℤ) → Meant TableParts
table_by axes line values =
    unless_at L3 (table_number_fault axes line values)
    (unless_at L5 (earlier (order_fault axes.first) (order_fault axes.second))
    (unless_at L4 (table_shape_fault axes line (numbers_or_none values))
    (Ok (arranged (is_turned axes.first.variable axes.second.variable) (axis_numbers axes.first)
    (axis_numbers axes.second) (numbers_or_none values)))))

-- the line of an attribute, or another where it is missing
abbrev pub line_or : ℕ → Option Entry → ℕ
line_or line None = line
line_or line (Some a) = a.line

module _ (bytes : List ℕ) where
  -- the values that an attribute gives
  abbrev pub values_by : ℤ → Option Entry → Option (List ℤ)
  values_by scale None = Some []
  values_by scale (Some a) = numbers_of bytes scale a

  -- the axes of a table: its own indexes replace those of the template
  unfoldable pub own_axes : Bool → Scales → Axes → Tree → Axes
  own_axes is_delay scales axes t = record {
    first = own_axis bytes is_delay scales (attribute bytes (codes "index_1") t) axes.first;
    second = own_axis bytes is_delay scales (attribute bytes (codes "index_2") t) axes.second;
  }

  -- a table on the axes of a template; its values are times, and faults of them stand at their line, or at the
  -- group's where there are none
  unfoldable pub table_on : Bool → Scales → Axes → Tree → Meant TableParts
  table_on is_delay scales axes t =
      table_by (own_axes is_delay scales axes t) (line_or (head_of t).line (attribute bytes (codes "values") t))
      (values_by scales.time (attribute bytes (codes "values") t))

  -- the template that a table names, by the one name
  abbrev pub template_by : Option Text → Templates → Option Template
  template_by None templates = None
  template_by (Some name) templates = template_named name templates

  -- a table that names a template, or no known one
  abbrev pub table_by_template : Bool → Scales → Tree → Option Template → Meant TableParts
  table_by_template is_delay scales t None = refuse (head_of t).line L6
  table_by_template is_delay scales t (Some template) = table_on is_delay scales (axes_for is_delay template) t

  -- a table group of an arc or of a check
  unfoldable pub table_of : Bool → Scales → Templates → Tree → Meant TableParts
  table_of is_delay scales templates t =
      table_by_template is_delay scales t (template_by (only (contents bytes (head_of t))) templates)
