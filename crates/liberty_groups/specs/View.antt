-- What the values of the code stand for.
use Rattle.std.specs.Prelude.{List, [], ◌∷◌, map, reverse, Option, Some, None, option_map}
use Rattle.text_forms.specs.declared.form_read.FormRead.{FormRead}
use Rattle.text_forms.specs.Reader.{whole_of as form_whole}
use Rattle.liberty_groups.specs.declared.context.Context.{Context}
use Rattle.liberty_groups.specs.declared.item.Item.{Item}
use Rattle.liberty_groups.specs.declared.group.Group.{Group}
use Rattle.liberty_groups.specs.declared.building.Building.{Building}
use Rattle.liberty_groups.specs.Building.{Unfinished}
use Rattle.liberty_groups.specs.Grammar.{WholeForm}
use Rattle.liberty_groups.specs.Trees.{Tree, tree_of, entry_of}

-- a form that was read
abbrev pub whole_of : FormRead Item Context → WholeForm
whole_of r = form_whole (λ item. item) r

-- groups of the code, the last of which is the innermost, with the innermost first
unfoldable pub innermost_first : List Group → List Tree
innermost_first gs = reverse (map tree_of gs)

-- the first of some groups, where there is one
abbrev pub first : List Tree → Option Tree
first [] = None
first (t ∷ ts) = Some t

-- a text that was read in part
abbrev pub unfinished : Building → Unfinished
unfinished b = record { groups = innermost_first b.groups.items; entry = option_map entry_of b.entry }
