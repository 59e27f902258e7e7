use Rattle.std.proofs.Common.{◌≡◌, map, take}
use Rattle.verilog_net.specs.Bits.{bits}
use Rattle.link_pins.specs.Seen.{bit_at}
use Rattle.link_pins.proofs.bits.bits_of.Given as goal

abbrev pub invariant-loop-number : goal.invariant-loop-number
invariant-loop-number l = l.bits.items ≡ map bit_at (bits (take l.number l.netlist.nets))
