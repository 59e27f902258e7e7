use Rattle.std.proofs.Common.{refl}
use Rattle.hier_flatten.specs.Flat.{flat_wire}
use Rattle.hier_flatten.proofs.SliceLaws.{map_turn}
use Rattle.hier_flatten.proofs.wires.flat_pins.Goals as goal

pub pins-preserved : goal.pins-preserved
pins-preserved c =
    map_turn (λ p. (p.0, flat_wire c.args.flat.now c.args.nets.now c.args.meant.now p.1)) c.pins.rest.now _ c.pin-item.result
    (c.in_ok-name.name, c.flat_wire.result) c.pins.connected.items c.push.new.self.items _ c.in-len1-up.len_at_least c.pin-item.is
    (rw (c.in_ok-name.ensures, c.flat_wire.ensures) refl) c.in_ok-push.ensures.items c.pins.invariant
