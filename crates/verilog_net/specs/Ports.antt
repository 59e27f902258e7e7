-- Ports by their names: the bits that a name stands for.
use Rattle.std.specs.Prelude.{ℕ, Option, Some, None}
use Rattle.name_numbers.specs.Names.{Text, found}
use Rattle.verilog_net.specs.declared.netlist.Net.{Net}
use Rattle.verilog_net.specs.declared.netlist.PortRole.{PortRole}
use Rattle.verilog_net.specs.declared.netlist.PortRole.TheVariants.{Inner}
use Rattle.verilog_net.specs.declared.port.PortFound.{PortFound}
use Rattle.verilog_net.specs.declared.port.PortFound.TheVariants.{Absent, Bits}
use Rattle.verilog_net.specs.Nets.{Nets, NetBit, named_bit}

-- a bus stands for its bits from its left bound to its right, another net for its one bit where it has a direction
abbrev pub bits_by : ℕ → Option (ℕ × ℕ) → PortRole → PortFound
bits_by decl (Some range) role = Bits decl range.0 range.1 role
bits_by decl None Inner = Absent
bits_by decl None role = Bits decl 0 0 role

abbrev pub bits_of : ℕ → Net → PortFound
bits_of decl net = bits_by decl net.range net.role

-- a net, or the bit where there is no such net
abbrev pub port_as : Option (ℕ × Net) → Option NetBit → PortFound
port_as (Some net) bit = bits_of net.0 net.1
port_as None (Some bit) = Bits bit.0 bit.1 bit.1 bit.2
port_as None None = Absent

-- the port, the bus or the bit of a bus with this name
unfoldable pub port_of : Text → Nets → PortFound
port_of name nets = port_as (found name nets) (named_bit name nets)
