-- The nets of a module by their names. A bus has a bit for each number between the bounds of its range.
use Rattle.std.specs.Prelude.{ℕ, ◌+◌, ◌-◌, ◌*◌, nat_le, Bool, true, false, ◌&&◌, ◌||◌, slice_index}
use Rattle.std.specs.Prelude.{List, [], ◌∷◌, ◌++◌, length, take, Option, Some, None, ◌==◌, if◌then◌else◌}
use Rattle.std.specs.Fmt.{decimal}
use Rattle.std.specs.Str.{bytes_eq}
use Rattle.std.specs.List.{list_any}
use Rattle.xt_model.specs.Options.{◌>>=◌}
use Rattle.name_numbers.specs.Names.{Text, found, value_of, with_value}
use Rattle.verilog_net.specs.declared.netlist.Net.{Net}
use Rattle.verilog_net.specs.declared.netlist.PortRole.{PortRole}
use Rattle.verilog_net.specs.declared.netlist.PortRole.TheVariants.{Input, Output, Inner}

-- the nets of a module by name, in order of first declaration or use
abbrev pub Nets : Type 0
Nets = List (Text × Net)

-- the greatest number of a bit
abbrev pub most_bit : ℕ
most_bit = 1048575

-- the number that digits write behind those of a number
abbrev pub value_after : ℕ → Text → ℕ
value_after n [] = n
value_after n (digit ∷ more) = value_after (n * 10 + (digit - 48)) more

-- a number, unless it is too great for a bit
abbrev pub as_bit : ℕ → Option ℕ
as_bit n = if nat_le n most_bit then Some n else None

-- the number of a bit or a bound, unless it is too great
abbrev pub number_of : Text → Option ℕ
number_of digits = as_bit (value_after 0 digits)

-- the number, where these are the digits that it is written with
abbrev pub written : Text → Option ℕ → Option ℕ
written digits None = None
written digits (Some n) = if bytes_eq (decimal n) digits then Some n else None

-- the number of a bit as its name has it: written without needless zeros, and behind it a `]` that ends the bytes
abbrev pub closed_number : Text → Option ℕ
closed_number bytes =
    if slice_index bytes (length bytes - 1) == 93
    then (let digits = take (length bytes - 1) bytes in written digits (number_of digits))
    else None

-- a bit whose `[` stands here, or else one whose `[` stands further on
abbrev pub bit_here : ℕ → Option ℕ → Option (ℕ × ℕ) → Option (ℕ × ℕ)
bit_here at (Some bit) more = Some (at, bit)
bit_here at None more = more

-- where the `[` of a bit's name stands, counted on from a place, and the number of the bit
abbrev pub bit_from : ℕ → Text → Option (ℕ × ℕ)
bit_from at [] = None
bit_from at (b ∷ more) =
    if b == 91 then bit_here at (closed_number more) (bit_from (at + 1) more) else bit_from (at + 1) more

-- a bus has this bit
abbrev pub has_bit : ℕ × ℕ → ℕ → Bool
has_bit range bit = nat_le range.0 bit && nat_le bit range.1 || nat_le range.1 bit && nat_le bit range.0

-- a bit: the number of its bus among the nets, its own number, and the role of the bus
abbrev pub NetBit : Type 0
NetBit = ℕ × ℕ × PortRole

-- the bit that has this name: bit k of a bus `a` has the name `a[k]`
unfoldable pub named_bit : Text → Nets → Option NetBit
named_bit name nets = do
  place ← bit_from 0 name
  bus ← found (take place.0 name) nets
  range ← bus.1.range
  if has_bit range place.1 then Some (bus.0, place.1, bus.1.role) else None

-- both are ranges with the same bounds, or none is a range
abbrev pub same_range : Option (ℕ × ℕ) → Option (ℕ × ℕ) → Bool
same_range None None = true
same_range (Some r) (Some q) = r.0 == q.0 && r.1 == q.1
same_range _ _ = false

-- what a net is that is declared as this and then as that; it cannot have both directions
abbrev pub joined_role : PortRole → PortRole → Option PortRole
joined_role Inner role = Some role
joined_role Input Output = None
joined_role Output Input = None
joined_role role _ = Some role

-- the net has a direction
abbrev pub is_directed : PortRole → Bool
is_directed Inner = false
is_directed _ = true

-- the bit is there and has a direction
abbrev pub is_port_bit : Option NetBit → Bool
is_port_bit (Some bit) = is_directed bit.2
is_port_bit None = false

-- the net, or the bit where there is no such net, is there and has a direction
abbrev pub is_port_as : Option (ℕ × Net) → Option NetBit → Bool
is_port_as (Some net) bit = is_directed net.1.role
is_port_as None bit = is_port_bit bit

-- the name is that of a net with a direction, or of a bit of one
unfoldable pub is_port : Text → Nets → Bool
is_port name nets = is_port_as (found name nets) (named_bit name nets)

-- nets that have names of bits: the name of the bus, and the numbers of the bits
abbrev pub BitNets : Type 0
BitNets = List (Text × List ℕ)

abbrev pub numbers_in : Option (List ℕ) → List ℕ
numbers_in None = []
numbers_in (Some numbers) = numbers

-- the bits of a bus whose names nets have
abbrev pub bit_nets_of : Text → BitNets → List ℕ
bit_nets_of bus named = numbers_in (value_of bus named)

-- a further net that has the name of this bit of this bus
abbrev pub with_bit_net : Text → ℕ → BitNets → BitNets
with_bit_net bus bit named = with_value bus (bit_nets_of bus named ++ bit ∷ []) named

-- the same where the name is that of a bit
abbrev pub with_net_at : Text → Option (ℕ × ℕ) → BitNets → BitNets
with_net_at name None named = named
with_net_at name (Some place) named = with_bit_net (take place.0 name) place.1 named

-- a further net has this name
unfoldable pub with_net : Text → BitNets → BitNets
with_net name named = with_net_at name (bit_from 0 name) named

-- some net has the name of a bit of this bus
unfoldable pub has_bit_net : Text → Option (ℕ × ℕ) → BitNets → Bool
has_bit_net bus None named = false
has_bit_net bus (Some range) named = list_any (has_bit range) (bit_nets_of bus named)
