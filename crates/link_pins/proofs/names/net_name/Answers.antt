use Rattle.verilog_net.specs.Bits.{bits}
use Rattle.std.proofs.lemmas.Option.{none-some}
use Rattle.link_pins.proofs.PinLaws.{element_at}
use Rattle.link_pins.proofs.names.net_name.Goals as goal

pub unreachable-requires : goal.unreachable-requires
unreachable-requires c =
    let b = element_at (bits c.args.nets.now.nets) c.args.net c.requires.there in
    none-some b.0.name (rw (c.in-None.is, b.1) at c.name.ensures.value)
