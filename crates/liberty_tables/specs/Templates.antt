-- The templates of tables that a library declares.
use Rattle.std.specs.Prelude.{ℕ, Bool, true, false, List, [], codes, Option, Some, None, Ok, Err}
use Rattle.std.specs.Prelude.{if◌then◌else◌}
use Rattle.std.specs.Str.{bytes_eq}
use Rattle.name_numbers.specs.Names.{Text, found, with_value}
use Rattle.xt_model.specs.declared.code.Code.TheVariants.{L1}
use Rattle.liberty_groups.specs.Trees.{Tree, head_of}
use Rattle.liberty_tables.specs.declared.units.Scales.{Scales}
use Rattle.liberty_tables.specs.declared.axis.Axis.{Axis}
use Rattle.liberty_tables.specs.declared.axis.Axes.{Axes}
use Rattle.liberty_tables.specs.declared.template.Template.{Template}
use Rattle.text_forms.specs.Names.{is_name}
use Rattle.text_forms.specs.Refusals.{Meant, refuse, over}
use Rattle.liberty_tables.specs.Search.{attribute, groups_named, contents, only}
use Rattle.liberty_tables.specs.Axes.{variable_by, second_variable, axis_by}

-- templates by their names
abbrev pub Templates : Type 0
Templates = List (Text × Template)

-- a name, or a refusal at this line
abbrev pub name_at : ℕ → Option Text → Meant Text
name_at line None = refuse line L1
name_at line (Some name) = if is_name name then Ok name else refuse line L1

-- axes of no variable and no index
abbrev pub no_axes : Axes
no_axes = record {
  first = record { variable = None; index = None };
  second = record { variable = None; index = None };
}

-- the template without axes, which is built in
abbrev pub scalar : Template
scalar = record { delay = no_axes; check = no_axes }

-- the axes of a delay table, or those of a check's
abbrev pub axes_for : Bool → Template → Axes
axes_for true t = t.delay
axes_for false t = t.check

module _ (bytes : List ℕ) where
  -- the one name of a cell or of a template
  unfoldable pub only_name : Tree → Meant Text
  only_name t = name_at (head_of t).line (only (contents bytes (head_of t)))

  -- the first axis that a template gives
  abbrev pub first_axis : Bool → Scales → Tree → Axis
  first_axis is_delay scales t =
      axis_by bytes is_delay scales (variable_by bytes is_delay (attribute bytes (codes "variable_1") t))
      (attribute bytes (codes "index_1") t)

  -- the second axis that a template gives, behind the variable of the first
  abbrev pub second_axis : Bool → Scales → Tree → Axis
  second_axis is_delay scales t =
      axis_by bytes is_delay scales
      (second_variable (variable_by bytes is_delay (attribute bytes (codes "variable_1") t))
      (variable_by bytes is_delay (attribute bytes (codes "variable_2") t)))
      (attribute bytes (codes "index_2") t)

  -- the axes that a template gives to delays, or to checks
  unfoldable pub axes_of : Bool → Scales → Tree → Axes
  axes_of is_delay scales t =
      record { first = first_axis is_delay scales t; second = second_axis is_delay scales t }

  -- what a group declares as a template
  abbrev pub template_of : Scales → Tree → Template
  template_of scales t = record { delay = axes_of true scales t; check = axes_of false scales t }

  -- a template that is declared again counts from then on
  abbrev pub with_template : Scales → Meant Text → Tree → Templates → Meant Templates
  with_template scales (Ok name) t templates = Ok (with_value name (template_of scales t) templates)
  with_template scales (Err r) t templates = Err r

  -- one more template
  unfoldable pub add_template : Scales → Tree → Templates → Meant Templates
  add_template scales t templates = with_template scales (only_name t) t templates

  -- the templates of a library, in the order of the text
  unfoldable pub templates_of : Scales → Tree → Meant Templates
  templates_of scales library =
      over (add_template scales) (groups_named bytes (codes "lu_table_template") library) []

-- a template that was found
abbrev pub declared_by : Option (ℕ × Template) → Option Template
declared_by None = None
declared_by (Some e) = Some e.1

-- the template of a name; `scalar` is built in
abbrev pub template_named : Text → Templates → Option Template
template_named name templates =
    if bytes_eq name (codes "scalar") then Some scalar else declared_by (found name templates)
