use Rattle.hier_flatten.specs.Flat.{wire_of}
use Rattle.hier_flatten.proofs.BelowLaws.{map_one}
use Rattle.hier_flatten.proofs.wires.wires_of.Goals as goal

pub loop-number-preserved : goal.loop-number-preserved
loop-number-preserved c =
    map_one (wire_of c.args.flat.now c.args.nets.now c.args.meant.now c.args.pins.now) c.args.inner.now c.loop-number.number c.loop-number.connected.items
    c.push_wire.new.connected.items _ c.get.ensures c.in_ok-push_wire.ensures c.loop-number.invariant
