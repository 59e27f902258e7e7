use Rattle.verilog_net.specs.declared.netlist.Instance.{Instance}
use Rattle.link_index.specs.declared.wires.PinWires.{PinWires}
use Rattle.link_index.specs.Nets.{AreWired}
use Rattle.link_index.proofs.PlaceLaws.{zipped_turn, zipped_end}
use Rattle.link_index.proofs.wires.all_wires.Goals as goal

abbrev go_together : Instance → PinWires → Type 0
go_together i w = AreWired i.pins w

pub instances-preserved : goal.instances-preserved
instances-preserved c =
    zipped_turn go_together c.args.instances.now c.instances.wires.items c.push.new.self.items c.instances.rest.now _ c.instance-item.result c.in_ok-of_pins.field-0
    c.in-len1-up.len_at_least c.instance-item.is c.in_ok-push.ensures.items c.instances.invariant (rw c.as_slice.ensures at c.in_ok-of_pins.ensures)

pub returns : goal.returns
returns c = zipped_end go_together c.args.instances.now c.instances.wires.items c.instances.rest.now c.in_default.len_below c.instances.invariant
