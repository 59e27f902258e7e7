-- The net of a design on which a pin is: a bit of the netlist.
use Rattle.std.specs.Prelude.{ℕ, ◌==◌, ◌&&◌, Bool, Option, None, position}
use Rattle.verilog_net.specs.Bits.{Bit, bits}
use Rattle.verilog_net.specs.Nets.{Nets}
use Rattle.verilog_net.specs.declared.netlist.Wire.{Wire}
use Rattle.verilog_net.specs.declared.netlist.Wire.TheVariants as wires

abbrev pub is_bit : ℕ → ℕ → Bit → Bool
is_bit decl bit b = b.decl == decl && b.bit == bit

-- the net on which a pin is: none where it is open or constant
unfoldable pub net_of : Nets → Wire → Option ℕ
net_of nets (wires.Bit decl bit) = position (is_bit decl bit) (bits nets)
net_of nets _ = None
