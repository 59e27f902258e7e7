use Rattle.link_index.proofs.FirstLaws.{values_all}
use Rattle.link_index.proofs.wires.wires_of.Goals as goal

pub returns : goal.returns
returns c = record { each = values_all c.pins.wires c.pins.rest.now c.args.pins.now c.in_default.len_below c.pins.invariant }
