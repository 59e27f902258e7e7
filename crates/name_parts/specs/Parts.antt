-- The bytes of names in parts.
use Rattle.std.specs.Prelude.{[], ◌++◌, Option, Some, None, option_map}
use Rattle.name_numbers.specs.Names.{Text}
use Rattle.name_parts.specs.declared.parts.NameParts.{NameParts}

-- the bytes of a prefix, none where there is none
abbrev pub or_none : Option Text → Text
or_none None = []
or_none (Some prefix) = prefix

-- the bytes with which a name in parts begins
abbrev pub front : NameParts → Text
front p = or_none (option_map (λ prefix. prefix.now) p.prefix)

-- all bytes of a name in parts
abbrev pub whole : NameParts → Text
whole p = front p ++ p.rest.now
