-- The names of a SPEF text as they are meant: without backslashes, with `/`, `[` and `]` for the marks of the text, and
-- with the names of the name map in the place of their numbers.
use Rattle.std.specs.Prelude.{ℕ, Bool, true, false, not, ◌&&◌, nat_le, List, [], ◌∷◌, ◌++◌, length, ◌==◌}
use Rattle.std.specs.Prelude.{Option, Some, None, Result, Ok, Err, if◌then◌else◌}
use Rattle.name_numbers.specs.Names.{found}
use Rattle.xt_model.specs.Limits.{most_name}
use Rattle.xt_model.specs.declared.code.Code.{Code}
use Rattle.xt_model.specs.declared.code.Code.TheVariants.{S1, S5}
use Rattle.xt_number.specs.Value.{without_zeros}
use Rattle.spef_read.specs.declared.marks.Marks.{Marks}
use Rattle.spef_read.specs.Words.{Text, are_digits, before, from_mark}

-- the marks of a text that gives none: `/` between the parts of a name, `:` before a pin, brackets around a bit
abbrev pub plain_marks : Marks
plain_marks = record { divider = 47; delimiter = 58; left = 91; right = 93 }

-- what a byte of a name is that has no backslash before it: the divider is `/`, the brackets of a bit are `[` and `]`
abbrev pub meant : Marks → ℕ → ℕ
meant m b = if b == m.divider then 47 else if b == m.left then 91 else if b == m.right then 93 else b

-- the bytes of a name as they are meant, where the first of them has a backslash before it or has none: backslashes
-- are left out, and a byte behind one is itself
abbrev pub unescaped : Marks → Bool → Text → Text
unescaped m kept [] = []
unescaped m kept (b ∷ more) =
    if b == 92 then unescaped m true more else (if kept then b else meant m b) ∷ unescaped m false more

-- a name has 1 to 2,049 bytes
abbrev pub has_size : Text → Bool
has_size name = not (length name == 0) && nat_le (length name) most_name

-- a name of another size is refused
abbrev pub sized : Text → Result Text Code
sized name = if has_size name then Ok name else Err S1

-- the names of the name map by their numbers, which have no zeros in front
abbrev pub NameMap : Type 0
NameMap = List (Text × Text)

-- the name of the map, with what stands behind its number; a number that is not there is refused
abbrev pub mapped : Marks → Text → Option (ℕ × Text) → Result Text Code
mapped m behind (Some entry) = sized (entry.1 ++ unescaped m false behind)
mapped m behind None = Err S5

-- a name that begins with `*`: a number up to the delimiter stands for the name of the map
abbrev pub mapped_name : Marks → NameMap → Text → Result Text Code
mapped_name m map more =
    if are_digits (before m.delimiter more)
    then mapped m (from_mark m.delimiter more) (found (without_zeros (before m.delimiter more)) map)
    else Err S1

-- the whole name that a word means
unfoldable pub whole_name : Marks → NameMap → Text → Result Text Code
whole_name m map [] = Err S1
whole_name m map (b ∷ more) =
    if b == 42 then mapped_name m map more else sized (unescaped m false (b ∷ more))

-- the name of a pair of the name map; it begins with no `*`
unfoldable pub pair_name : Marks → Text → Result Text Code
pair_name m [] = Err S1
pair_name m (b ∷ more) = if b == 42 then Err S1 else sized (unescaped m false (b ∷ more))
