use Rattle.std.proofs.Common.{List, ◌++◌, ◌∙◌, ap}
use Rattle.xt_model.specs.declared.check.CheckPoint.{CheckPoint}
use Rattle.verilog_net.specs.Bits.{bits}
use Rattle.link_rules.specs.Checks.{port_checks_from}
use Rattle.link_pins.proofs.MadeLaws.{bare_so, bare_count}
use Rattle.link_pins.proofs.joined.join.Goals as goal

pub returns : goal.returns
returns c = (
  c.in_ok-drivers.ensures.single,
  record {
    nets = bare_so c.args.cells.now c.args.nets.now c.args.constraints.now _ c.in_ok-nets.ensures;
    ports =
        c.in_ok-add_all_ports.ensures
        ∙ ap (λ (l : List CheckPoint). l ++ port_checks_from c.args.cells.now c.args.nets.now c.args.constraints.now 0 (bits c.args.nets.now.nets)) c.new-ports.ensures.items;
    pins = record {
      sound = c.netlist.ensures.sound;
      count = bare_count c.args.cells.now c.args.nets.now c.args.constraints.now _ c.in_ok-nets.ensures;
      pins = c.in_ok-pins.ensures.all;
      placed = c.in_ok-pins.ensures.placed;
      places = c.in_ok-sinks.ensures.places;
    };
  },
)

pub drivers_of-requires-clause-sound : goal.drivers_of-requires-clause-sound
drivers_of-requires-clause-sound c = c.netlist.ensures.sound

pub drivers_of-requires-clause-bits : goal.drivers_of-requires-clause-bits
drivers_of-requires-clause-bits c = rw c.deref.ensures.value (rw c.netlist.ensures.value at c.in_ok-bits.ensures)

pub drivers_of-requires-clause-pins : goal.drivers_of-requires-clause-pins
drivers_of-requires-clause-pins c = rw c.deref-2.ensures.value c.in_ok-pins.ensures.all

pub sinks_of-requires-clause-sound : goal.sinks_of-requires-clause-sound
sinks_of-requires-clause-sound c = c.netlist.ensures.sound

pub sinks_of-requires-clause-bits : goal.sinks_of-requires-clause-bits
sinks_of-requires-clause-bits c = rw c.deref-3.ensures.value (rw c.netlist.ensures.value at c.in_ok-bits.ensures)

pub sinks_of-requires-clause-pins : goal.sinks_of-requires-clause-pins
sinks_of-requires-clause-pins c = rw c.deref-4.ensures.value c.in_ok-pins.ensures.all

pub add_all_ports-requires-clause-bits : goal.add_all_ports-requires-clause-bits
add_all_ports-requires-clause-bits c = rw c.deref-5.ensures.value (rw c.netlist.ensures.value at c.in_ok-bits.ensures)

pub add_all_ports-requires-clause-sinks : goal.add_all_ports-requires-clause-sinks
add_all_ports-requires-clause-sinks c = rw c.deref-6.ensures.value c.in_ok-sinks.ensures.sinks

pub all_nets-requires-clause-bits : goal.all_nets-requires-clause-bits
all_nets-requires-clause-bits c = rw c.deref-7.ensures.value (rw c.netlist.ensures.value at c.in_ok-bits.ensures)

pub all_nets-requires-clause-drivers : goal.all_nets-requires-clause-drivers
all_nets-requires-clause-drivers c = c.in_ok-drivers.ensures.value

pub all_nets-requires-clause-sinks : goal.all_nets-requires-clause-sinks
all_nets-requires-clause-sinks c = c.in_ok-sinks.ensures.sinks
