-- What the forms of a Liberty text make of it, one after another.
use Rattle.std.specs.Prelude.{List, [], ◌∷◌, ◌++◌, Option, Some, None, Result, Ok, Err}
use Rattle.xt_model.specs.declared.code.Code.{Code}
use Rattle.xt_model.specs.declared.code.Code.TheVariants.{L1}
use Rattle.liberty_groups.specs.declared.span.Span.{Span}
use Rattle.liberty_groups.specs.declared.item.Item.{Item}
use Rattle.liberty_groups.specs.declared.item.Item.TheVariants as items
use Rattle.liberty_groups.specs.Trees.{Entry, Tree, node, no_trees, with_attribute, with_group}

-- a text that was read in part: the groups that are open, the innermost first, and the last name with its values, where
-- it is not yet part of a group
pub record Unfinished : Type 0 where
  pub groups : List Tree
  pub entry : Option Entry

-- nothing was read yet
abbrev pub nothing_read : Unfinished
nothing_read = record { groups = []; entry = None }

-- a name with values that opened no group is an attribute of the innermost group
abbrev pub settled : Option Entry → List Tree → List Tree
settled None ts = ts
settled (Some a) [] = []
settled (Some a) (t ∷ around) = with_attribute a t ∷ around

-- a name with values opens a group
abbrev pub opened : Option Entry → List Tree → List Tree
opened None ts = ts
opened (Some head) ts = node head [] no_trees ∷ ts

-- the innermost group has ended: it belongs to the one around it; the library belongs to none
abbrev pub closed : List Tree → List Tree
closed [] = []
closed (t ∷ []) = t ∷ []
closed (t ∷ around ∷ more) = with_group t around ∷ more

-- one more value behind a name
abbrev pub with_value : Span → Option Entry → Option Entry
with_value v None = None
with_value v (Some e) = Some (record { name = e.name; values = e.values ++ v ∷ []; line = e.line })

-- what a form makes of the text before it
abbrev pub step : Item → Unfinished → Result Unfinished Code
step items.Nothing u = Ok u
step (items.Named name line) u =
    Ok (record { groups = settled u.entry u.groups; entry = Some (record { name = name; values = []; line = line }) })
step (items.Value v) u = Ok (record { groups = u.groups; entry = with_value v u.entry })
step items.Ends u = Ok (record { groups = settled u.entry u.groups; entry = None })
step items.Opens u = Ok (record { groups = opened u.entry u.groups; entry = None })
step items.TooDeep u = Err L1
step items.Closes u = Ok (record { groups = closed (settled u.entry u.groups); entry = None })
