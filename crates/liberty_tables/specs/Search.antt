-- Groups and attributes by their names.
use Rattle.std.specs.Prelude.{ℕ, Bool, true, false, List, [], ◌∷◌, map, filter, Option, Some, None, if◌then◌else◌}
use Rattle.std.specs.Str.{bytes_eq}
use Rattle.name_numbers.specs.Names.{Text}
use Rattle.liberty_groups.specs.declared.group.Group.{Group}
use Rattle.liberty_groups.specs.Trees.{Entry, Tree, tree_of, head_of, attributes_of, groups_of}
use Rattle.liberty_tables.specs.Contents.{text_in, content}

-- there is a group
abbrev pub is_some_tree : List Tree → Bool
is_some_tree [] = false
is_some_tree (t ∷ ts) = true

module _ (bytes : List ℕ) where
  -- a group of this name
  abbrev pub is_group : Text → Tree → Bool
  is_group word t = bytes_eq (text_in bytes (head_of t).name) word

  -- the groups of a name within a group, in the order of the text
  abbrev pub groups_named : Text → Tree → List Tree
  groups_named word t = filter (is_group word) (groups_of t)

  -- a group of a name stands within a group
  abbrev pub has_group : Text → Tree → Bool
  has_group word t = is_some_tree (groups_named word t)

  -- of some groups of the code, those of a name
  abbrev pub named_among : Text → List Group → List Tree
  named_among word gs = filter (is_group word) (map tree_of gs)

  -- the last of the attributes with a name, where `seen` is the last one before them
  abbrev pub last_named : Text → Option Entry → List Entry → Option Entry
  last_named word seen [] = seen
  last_named word seen (a ∷ more) = last_named word (if bytes_eq (text_in bytes a.name) word then Some a else seen) more

  -- of an attribute that stands twice in a group the last counts
  abbrev pub attribute : Text → Tree → Option Entry
  attribute word t = last_named word None (attributes_of t)

  -- what the values of an attribute, or the arguments of a group, hold
  abbrev pub contents : Entry → List Text
  contents a = map (content bytes) a.values

-- the only one of some texts
abbrev pub only : List Text → Option Text
only [] = None
only (x ∷ []) = Some x
only (x ∷ y ∷ more) = None
