use Rattle.hier_flatten.proofs.TableLaws.{first_turn}
use Rattle.hier_flatten.proofs.wires.pins_by_name.Goals as goal

pub pins-preserved : goal.pins-preserved
pins-preserved c =
    first_turn c.pins.table c.put_first.new.table c.pins.rest.now _ c.pin-item.result c.bytes.result.now c.args.pins.now
    c.in-len1-up.len_at_least c.pin-item.is c.bytes.ensures c.in_ok-put_first.ensures c.pins.invariant
