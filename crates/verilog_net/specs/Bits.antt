-- The bits of the nets of a netlist, in order of first declaration or use, a bus from its left bound to its right. They
-- are the nets of a design.
use Rattle.std.specs.Prelude.{ℕ, zero, suc, ◌+◌, ◌-◌, nat_le, List, [], ◌∷◌, ◌++◌, map, codes, decimal}
use Rattle.std.specs.Prelude.{Option, Some, None, if◌then◌else◌}
use Rattle.name_numbers.specs.Names.{Text}
use Rattle.verilog_net.specs.declared.netlist.PortRole.{PortRole}
use Rattle.verilog_net.specs.Nets.{Nets}

-- a bit: the number of its net's name in the netlist, its own number as the range has it, its name and its direction
pub record Bit : Type 0 where
  pub decl : ℕ
  pub bit : ℕ
  pub name : Text
  pub role : PortRole

-- numbers up from the first one, and down, as many as are given
abbrev pub rising : ℕ → ℕ → List ℕ
rising first zero = []
rising first (suc more) = first ∷ rising (first + 1) more

abbrev pub falling : ℕ → ℕ → List ℕ
falling first zero = []
falling first (suc more) = first ∷ falling (first - 1) more

-- the numbers of a bus's bits, from the left bound of its range to the right one
abbrev pub numbers_of : ℕ × ℕ → List ℕ
numbers_of range =
    if nat_le range.0 range.1 then rising range.0 (range.1 - range.0 + 1) else falling range.0 (range.0 - range.1 + 1)

-- bit k of a bus `a` has the name `a[k]`
abbrev pub bit_name : Text → ℕ → Text
bit_name name k = name ++ codes "[" ++ decimal k ++ codes "]"

-- a bit of a bus
abbrev pub bus_bit : ℕ → Text → PortRole → ℕ → Bit
bus_bit decl name role k = record { decl = decl; bit = k; name = bit_name name k; role = role }

-- a net without a range is one bit, of number 0
abbrev pub bits_by : ℕ → Text → PortRole → Option (ℕ × ℕ) → List Bit
bits_by decl name role None = record { decl = decl; bit = 0; name = name; role = role } ∷ []
bits_by decl name role (Some range) = map (bus_bit decl name role) (numbers_of range)

-- the bits of the nets from this number on
abbrev pub bits_from : ℕ → Nets → List Bit
bits_from decl [] = []
bits_from decl (net ∷ more) = bits_by decl net.0 net.1.role net.1.range ++ bits_from (decl + 1) more

-- all bits; the number of a net of the design is where its bit stands here
unfoldable pub bits : Nets → List Bit
bits nets = bits_from 0 nets
