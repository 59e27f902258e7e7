-- Names of bits, entered one after another.
use Rattle.std.specs.Prelude.{ℕ, List, [], ◌∷◌, map, Option, Some, None}
use Rattle.std.specs.List.{All}
use Rattle.name_numbers.specs.Names.{Text, with_value}
use Rattle.xt_model.specs.Names.{IsName}
use Rattle.verilog_net.specs.Bits.{bit_name, numbers_of}

-- a table once these names have been entered
abbrev pub with_names : List (Text × Unit {0}) → List Text → List (Text × Unit {0})
with_names table [] = table
with_names table (name ∷ more) = with_names (with_value name tt table) more

-- the names of the bits of a net with this range
abbrev pub net_names : Text → Option (ℕ × ℕ) → List Text
net_names name None = name ∷ []
net_names name (Some range) = map (bit_name name) (numbers_of range)

-- each name of a table is one that a design may have
abbrev pub AreNames : List (Text × Unit {0}) → Type 0
AreNames table = All (λ e. IsName e.0) table
