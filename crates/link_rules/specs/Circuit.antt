-- The nets of a design by their pins: what drives them, their sinks, their arcs, and the check points.
use Rattle.std.specs.Prelude.{ℕ, List, [], ◌∷◌, ◌++◌, map, ℤ, pos, Option, Some, None}
use Rattle.std.specs.List.{enumerate_from}
use Rattle.liberty_cells.specs.declared.library.Library.{Library}
use Rattle.verilog_net.specs.declared.netlist.Netlist.{Netlist}
use Rattle.verilog_net.specs.declared.netlist.PortRole.{PortRole}
use Rattle.verilog_net.specs.declared.netlist.PortRole.TheVariants as roles
use Rattle.sdc_read.specs.declared.constraints.Constraints.{Constraints}
use Rattle.sdc_read.specs.declared.ports.PortSet.{PortSet}
use Rattle.sdc_read.specs.Ports.{port_at}
use Rattle.link_rules.specs.declared.circuit.Sink.{Sink}
use Rattle.link_rules.specs.declared.circuit.NetPins.{NetPins}
use Rattle.link_rules.specs.declared.circuit.Circuit.{Circuit}
use Rattle.verilog_net.specs.Bits.{Bit, bits}
use Rattle.link_rules.specs.Pins.{Connected, end_of, inputs_on, outputs_on}
use Rattle.link_rules.specs.Ends.{NetEnd, Port}
use Rattle.link_rules.specs.Arcs.{arcs_of}
use Rattle.link_rules.specs.Checks.{checks_of}
use Rattle.link_rules.specs.Given.{given_of, is_input_port}

-- a bit with its number
abbrev pub Numbered : Type 0
Numbered = ℕ × Bit

abbrev pub numbered : Netlist → List Numbered
numbered netlist = enumerate_from 0 (bits netlist.nets)

-- an input port is a driver of its net
abbrev pub port_drivers : Bit → PortRole → List NetEnd
port_drivers b roles.Input = Port b.name ∷ []
port_drivers b _ = []

-- what drives a net: the input port, and the output pins on it
abbrev pub drivers_of : Library → Netlist → Numbered → List NetEnd
drivers_of library netlist n = port_drivers n.1 n.1.role ++ map end_of (outputs_on library netlist n.0)

abbrev pub first_of : List NetEnd → Option NetEnd
first_of [] = None
first_of (end ∷ more) = Some end

-- the load of an output port in aF, 0 where none is given
abbrev pub load_in : Option PortSet → ℤ
load_in None = pos 0
load_in (Some set) = set.load

-- a pin as a sink, with its capacitance
abbrev pub pin_sink : Connected → Sink
pin_sink c = record { end = end_of c; cap = c.pin.cap }

module _ (library : Library) (netlist : Netlist) (constraints : Constraints) where
  -- an output port is a sink of its net, with its load
  abbrev pub port_sinks : Bit → PortRole → List Sink
  port_sinks b roles.Output =
      record { end = Port b.name; cap = load_in (port_at b.decl b.bit constraints.ports) } ∷ []
  port_sinks b _ = []

  -- the sinks of a net: the input pins on it, then the output port
  abbrev pub sinks_of : Numbered → List Sink
  sinks_of n = map pin_sink (inputs_on library netlist n.0) ++ port_sinks n.1 n.1.role

  -- a net by its pins
  unfoldable pub net_pins : Numbered → NetPins
  net_pins n = record {
    name = n.1.name;
    input = is_input_port n.1.role;
    given = given_of constraints n.1;
    driver = first_of (drivers_of library netlist n);
    sinks = sinks_of n;
    arcs = arcs_of library netlist n.0;
  }

  unfoldable pub circuit_of : Circuit
  circuit_of = record {
    nets = map net_pins (numbered netlist);
    checks = checks_of library netlist constraints;
  }
