-- The groups of a Liberty text as trees.
use Rattle.std.specs.Prelude.{ℕ, List, [], ◌∷◌, ◌++◌, map}
use Rattle.liberty_groups.specs.declared.span.Span.{Span}
use Rattle.liberty_groups.specs.declared.group.Attribute.{Attribute}
use Rattle.liberty_groups.specs.declared.group.Group.{Group}
use Rattle.liberty_groups.specs.declared.group.Group.TheOpen.{Group-F}
use Rattle.liberty_groups.specs.declared.group.Group.TheFolds.{fold-Group}

-- a name, the values behind it and the line of the name: an attribute, or the head of a group
pub record Entry : Type 0 where
  pub name : Span
  pub values : List Span
  pub line : ℕ

mutual
  -- a group: its head, its attributes and its inner groups, each in the order of the text
  pub data Tree : Type 0 where
    node : Entry → List Entry → Forest → Tree

  -- groups one after another
  pub data Forest : Type 0 where
    no_trees : Forest
    tree_and : Tree → Forest → Forest

-- a group's name with its arguments
abbrev pub head_of : Tree → Entry
head_of (node head attributes inner) = head

-- a group's attributes
abbrev pub attributes_of : Tree → List Entry
attributes_of (node head attributes inner) = attributes

-- groups one after another as a list
abbrev pub trees : Forest → List Tree
trees no_trees = []
trees (tree_and t ts) = t ∷ trees ts

-- a list of groups as groups one after another
abbrev pub forest : List Tree → Forest
forest [] = no_trees
forest (t ∷ ts) = tree_and t (forest ts)

-- a group's inner groups
abbrev pub groups_of : Tree → List Tree
groups_of (node head attributes inner) = trees inner

-- groups, and one behind them
abbrev pub followed_by : Forest → Tree → Forest
followed_by no_trees u = tree_and u no_trees
followed_by (tree_and t ts) u = tree_and t (followed_by ts u)

-- a group with one more attribute
abbrev pub with_attribute : Entry → Tree → Tree
with_attribute a (node head attributes inner) = node head (attributes ++ a ∷ []) inner

-- a group with one more inner group
abbrev pub with_group : Tree → Tree → Tree
with_group t (node head attributes inner) = node head attributes (followed_by inner t)

-- what an attribute of the code stands for
abbrev pub entry_of : Attribute → Entry
entry_of a = record { name = a.name; values = a.values; line = a.line }

-- a group of the code whose inner groups stand for these trees
abbrev pub tree_step : Group-F Tree → Tree
tree_step g =
    node (record { name = g.name; values = g.args; line = g.line })
    (map entry_of g.attributes) (forest g.groups.items)

-- what a group of the code stands for
unfoldable pub tree_of : Group → Tree
tree_of g = fold-Group Tree tree_step g
