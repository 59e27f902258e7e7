use Rattle.verilog_net.specs.Bits.{numbers_of}
use Rattle.link_pins.proofs.BitLaws.{bus_bits}
use Rattle.link_pins.proofs.bits.add_net.Goals as goal

pub returns-in-Some-range : goal.returns-in-Some-range
returns-in-Some-range c =
    rw (← c.get.ensures, c.in-Some.is, c.in-Some-range.is, bus_bits c.args.number c.in-Some.field-0-0.now c.in-Some.net.now.role (numbers_of (c.in-Some-range.left, c.in-Some-range.right)))
    c.add_bus.ensures
