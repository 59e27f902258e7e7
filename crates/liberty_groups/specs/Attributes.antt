-- The attributes that a list of the code has.
use Rattle.std.specs.Prelude.{List, [], ◌∷◌}
use Rattle.liberty_groups.specs.declared.attributes.Kept.{Kept}
use Rattle.liberty_groups.specs.declared.attributes.Kept.TheVariants as lists
use Rattle.liberty_groups.specs.declared.group.Attribute.{Attribute}

-- none, one, or all of a list
abbrev pub attributes_kept : Kept → List Attribute
attributes_kept lists.None = []
attributes_kept (lists.One attribute) = attribute.value ∷ []
attributes_kept (lists.Many attributes) = attributes.value.items
