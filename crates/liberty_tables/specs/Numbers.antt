-- Numbers in words and strings.
use Rattle.std.specs.Prelude.{ℕ, List, [], ◌∷◌, ◌++◌, flat_map, ℤ, Option, Some, None, Result, Ok}
use Rattle.name_numbers.specs.Names.{Text}
use Rattle.xt_number.specs.Value.{fixed}
use Rattle.liberty_groups.specs.Trees.{Entry}
use Rattle.liberty_tables.specs.Contents.{numbers_in}
use Rattle.liberty_tables.specs.Search.{contents}

-- one more number before others, where all are numbers
abbrev pub fixed_and : {E : Type 0} → Result ℤ E → Option (List ℤ) → Option (List ℤ)
fixed_and (Ok x) (Some xs) = Some (x ∷ xs)
fixed_and _ _ = None

-- items as numbers at a scale, where none is refused
abbrev pub all_fixed : ℤ → List Text → Option (List ℤ)
all_fixed scale [] = Some []
all_fixed scale (item ∷ items) = fixed_and (fixed item scale) (all_fixed scale items)

-- numbers behind others
abbrev pub behind : List ℤ → Option (List ℤ) → Option (List ℤ)
behind xs None = None
behind xs (Some ys) = Some (xs ++ ys)

-- the numbers of an attribute at a scale: the items of all its values
abbrev pub numbers_of : List ℕ → ℤ → Entry → Option (List ℤ)
numbers_of bytes scale a = all_fixed scale (flat_map numbers_in (contents bytes a))
