-- A worked example: two flip-flops and two inverters, of which two wires couple.
use Rattle.std.proofs.Common.{◌≡◌, ℕ, refl, List, [], ◌∷◌}
use Rattle.std.specs.Prelude.{ℤ, pos, codes, Bool, true, false, Option, Some, None, if◌then◌else◌}
use Rattle.name_numbers.specs.Names.{Text}
use Rattle.xt_model.specs.declared.edge.Edge.TheVariants.{Rise, Fall}
use Rattle.xt_model.specs.declared.net.TimingArc.{TimingArc}
use Rattle.xt_model.specs.declared.quad.Pair.{Pair}
use Rattle.xt_model.specs.declared.check.CheckPoint.TheVariants as checks
use Rattle.xt_model.specs.Quads.{bottom}
use Rattle.liberty_cells.specs.declared.library.Library.{Library}
use Rattle.liberty_cells.specs.declared.pin.Role.TheVariants as roles
use Rattle.liberty_cells.specs.declared.timing.Timing.{Timing}
use Rattle.liberty_cells.specs.declared.timing.TimingKind.{TimingKind}
use Rattle.liberty_cells.specs.declared.timing.TimingKind.TheVariants as kinds
use Rattle.liberty_cells.specs.declared.timing.Sense.TheVariants as senses
use Rattle.liberty_cells.specs.Pins.{PinParts}
use Rattle.verilog_net.specs.declared.netlist.Net.{Net}
use Rattle.verilog_net.specs.declared.netlist.Netlist.{Netlist}
use Rattle.verilog_net.specs.declared.netlist.Instance.{Instance}
use Rattle.verilog_net.specs.declared.netlist.Wire.TheVariants as wires
use Rattle.verilog_net.specs.declared.netlist.PortRole.{PortRole}
use Rattle.verilog_net.specs.declared.netlist.PortRole.TheVariants as ports
use Rattle.spef_read.specs.declared.parasitics.Parasitics.{Parasitics}
use Rattle.spef_read.specs.declared.parasitics.NameId.{NameId}
use Rattle.sdc_read.specs.declared.constraints.Constraints.{Constraints}
use Rattle.sdc_read.specs.declared.ports.Sides.{Sides}
use Rattle.sdc_read.specs.Ports.{no_sides}
use Rattle.elmore_tree.specs.Trees.{TreeParts}
use Rattle.link_rules.specs.declared.circuit.Sink.{Sink}
use Rattle.link_rules.specs.declared.circuit.NetPins.{NetPins}
use Rattle.link_rules.specs.declared.circuit.Circuit.{Circuit}
use Rattle.verilog_net.specs.Bits.{bits}
use Rattle.link_rules.specs.Bits.{net_of}
use Rattle.link_rules.specs.Pins.{pins}
use Rattle.link_rules.specs.Ends.{Pin, Port}
use Rattle.link_rules.specs.Arcs.{sink_at, arcs_of}
use Rattle.link_rules.specs.Checks.{flop_checks, checks_of}
use Rattle.link_rules.specs.Given.{given_of}
use Rattle.link_rules.specs.Circuit.{net_pins, circuit_of}
use Rattle.link_rules.specs.Nodes.{node_net}
use Rattle.link_rules.specs.Wires.{wire_of, nodes_of, couplings_of, tree_of}

-- ---- the library: tables 0 to 3 of the inverter, 4 to 11 of the flip-flop

abbrev timing : List Text → TimingKind → Option ℕ → Option ℕ → Option ℕ → Option ℕ → Timing
timing related kind rise fall rise_slew fall_slew = record {
  related = related;
  kind = kind;
  sense = senses.Negative;
  rise = rise;
  fall = fall;
  rise_slew = rise_slew;
  fall_slew = fall_slew;
}

abbrev input_pin : Text → List Timing → PinParts
input_pin name timings = record { name = name; role = roles.Input; cap = pos 1000; timings = timings }

abbrev output_pin : Text → Timing → PinParts
output_pin name t = record { name = name; role = roles.Output; cap = pos 0; timings = t ∷ [] }

abbrev clock_name : List Text
clock_name = codes "CK" ∷ []

abbrev library : Library
library = record {
  time_scale = pos 6;
  cap_scale = pos 6;
  tables = [];
  cells = record {
    name = codes "INV";
    latch = false;
    pins = input_pin (codes "A") [] ∷ output_pin (codes "Y") (timing (codes "A" ∷ []) kinds.Combinational (Some 0) (Some 1) (Some 2) (Some 3)) ∷ [];
  } ∷ record {
    name = codes "DFF";
    latch = false;
    pins = input_pin (codes "CK") []
        ∷ input_pin (codes "D") (timing clock_name kinds.SetupRising (Some 4) (Some 5) None None ∷ timing clock_name kinds.HoldRising (Some 6) (Some 7) None None ∷ [])
        ∷ output_pin (codes "Q") (timing clock_name kinds.RisingEdge (Some 8) (Some 9) (Some 10) (Some 11)) ∷ [];
  } ∷ [];
}

-- ---- the netlist

abbrev plain : PortRole → Net
plain role = record { range = None; role = role; declared = true }

abbrev flop : Text → ℕ → ℕ → Instance
flop name d q = record {
  cell = codes "DFF";
  name = name;
  line = 1;
  pins = (codes "CK", wires.Bit 0 0) ∷ (codes "D", wires.Bit d 0) ∷ (codes "Q", wires.Bit q 0) ∷ [];
}

abbrev inverter : Text → ℕ → ℕ → Instance
inverter name a y = record {
  cell = codes "INV";
  name = name;
  line = 1;
  pins = (codes "A", wires.Bit a 0) ∷ (codes "Y", wires.Bit y 0) ∷ [];
}

abbrev netlist : Netlist
netlist = record {
  «module» = codes "top";
  nets = (codes "ck", plain ports.Input) ∷ (codes "d", plain ports.Input) ∷ (codes "y", plain ports.Output)
      ∷ (codes "q1", plain ports.Inner) ∷ (codes "n1", plain ports.Inner) ∷ (codes "bus[0]", plain ports.Inner) ∷ [];
  instances = flop (codes "f1") 5 3 ∷ flop (codes "f2") 4 2 ∷ inverter (codes "g1") 3 4 ∷ inverter (codes "g2") 1 5 ∷ [];
}

-- ---- the constraints

abbrev both : ℤ → ℤ → Sides
both least most = record { rise_min = Some least; rise_max = Some most; fall_min = Some least; fall_max = Some most }

abbrev constraints : Constraints
constraints = record {
  clock = Some (record { name = codes "ck"; decl = 0; bit = 0; period = pos 1000000; fall = pos 500000 });
  ports = record { decl = 0; bit = 0; input = no_sides; output = no_sides; slew = both (pos 20000) (pos 20000); load = pos 0 }
      ∷ record { decl = 1; bit = 0; input = both (pos 74000) (pos 100000); output = no_sides; slew = both (pos 20000) (pos 20000); load = pos 0 }
      ∷ record { decl = 2; bit = 0; input = no_sides; output = both (pos 10000) (pos 50000); slew = both (pos 0) (pos 0); load = pos 2000 } ∷ [];
}

-- ---- the nets by their pins, by hand

abbrev quiet : Pair
quiet = record { rise = bottom; fall = bottom }

abbrev arc : ℕ → ℕ → Bool → Bool → ℕ → ℕ → TimingArc
arc net sink input output delay slew = record {
  from = record { 0 = net };
  sink = sink;
  input = (if input then Rise else Fall);
  output = (if output then Rise else Fall);
  delay = delay;
  slew = slew;
}

abbrev at_pin : Text → Text → Sink
at_pin instance pin = record { end = Pin instance pin; cap = pos 1000 }

abbrev n1 : NetPins
n1 = record {
  name = codes "n1";
  input = false;
  given = quiet;
  driver = Some (Pin (codes "g1") (codes "Y"));
  sinks = at_pin (codes "f2") (codes "D") ∷ [];
  arcs = arc 3 0 true false 1 3 ∷ arc 3 0 false true 0 2 ∷ [];
}

abbrev circuit : Circuit
circuit = record {
  nets = record {
    name = codes "ck";
    input = true;
    given = record {
      rise = record { tlo = pos 0; thi = pos 0; slo = pos 20000; shi = pos 20000 };
      fall = record { tlo = pos 500000; thi = pos 500000; slo = pos 20000; shi = pos 20000 };
    };
    driver = Some (Port (codes "ck"));
    sinks = at_pin (codes "f1") (codes "CK") ∷ at_pin (codes "f2") (codes "CK") ∷ [];
    arcs = [];
  } ∷ record {
    name = codes "d";
    input = true;
    given = record {
      rise = record { tlo = pos 74000; thi = pos 100000; slo = pos 20000; shi = pos 20000 };
      fall = record { tlo = pos 74000; thi = pos 100000; slo = pos 20000; shi = pos 20000 };
    };
    driver = Some (Port (codes "d"));
    sinks = at_pin (codes "g2") (codes "A") ∷ [];
    arcs = [];
  } ∷ record {
    name = codes "y";
    input = false;
    given = quiet;
    driver = Some (Pin (codes "f2") (codes "Q"));
    sinks = record { end = Port (codes "y"); cap = pos 2000 } ∷ [];
    arcs = arc 0 1 true true 8 10 ∷ arc 0 1 true false 9 11 ∷ [];
  } ∷ record {
    name = codes "q1";
    input = false;
    given = quiet;
    driver = Some (Pin (codes "f1") (codes "Q"));
    sinks = at_pin (codes "g1") (codes "A") ∷ [];
    arcs = arc 0 0 true true 8 10 ∷ arc 0 0 true false 9 11 ∷ [];
  } ∷ n1 ∷ record {
    name = codes "bus[0]";
    input = false;
    given = quiet;
    driver = Some (Pin (codes "g2") (codes "Y"));
    sinks = at_pin (codes "f1") (codes "D") ∷ [];
    arcs = arc 1 0 true false 1 3 ∷ arc 1 0 false true 0 2 ∷ [];
  } ∷ [];
  checks = checks.Flop (codes "f1/D") false (record { 0 = 5 }) 0 (record { 0 = 0 }) 0 (Some 4) (Some 5)
      ∷ checks.Flop (codes "f1/D") true (record { 0 = 5 }) 0 (record { 0 = 0 }) 0 (Some 6) (Some 7)
      ∷ checks.Flop (codes "f2/D") false (record { 0 = 4 }) 0 (record { 0 = 0 }) 1 (Some 4) (Some 5)
      ∷ checks.Flop (codes "f2/D") true (record { 0 = 4 }) 0 (record { 0 = 0 }) 1 (Some 6) (Some 7)
      ∷ checks.Port (codes "y") false (record { 0 = 2 }) 0 (Some (pos 50000)) (Some (pos 50000))
      ∷ checks.Port (codes "y") true (record { 0 = 2 }) 0 (Some (pos 10000)) (Some (pos 10000)) ∷ [];
}

pub circuit_is : circuit_of library netlist constraints ≡ circuit
unfolding circuit_of net_pins given_of arcs_of sink_at checks_of flop_checks pins net_of bits
circuit_is = refl

-- ---- the wire of n1: 50 ohm from g1:Y to n1:1, 50 ohm to f2:D; 2 fF at n1:1, and 1 fF from there to bus[0]

abbrev name : ℕ → NameId
name n = record { number = n }

abbrev parasitics : Parasitics
parasitics = record {
  delimiter = 58;
  names = (codes "n1", Some 0) ∷ (codes "n1:1", None) ∷ (codes "bus[0]:1", None) ∷ (codes "g1:Y", None) ∷ (codes "f2:D", None) ∷ [];
  nets = record {
    name = name 0;
    total = pos 3000;
    caps = record { a = name 1; b = None; value = pos 2000 } ∷ record { a = name 1; b = Some (name 2); value = pos 1000 } ∷ [];
    resistors = record { a = name 3; b = name 1; value = pos 50000 } ∷ record { a = name 1; b = name 4; value = pos 50000 } ∷ [];
  } ∷ [];
}

abbrev tree : TreeParts
tree = record {
  nodes = 3;
  root = 0;
  resistors = record { a = 0; b = 2; value = pos 50000 } ∷ record { a = 2; b = 1; value = pos 50000 } ∷ [];
  ground = pos 0 ∷ pos 1000 ∷ pos 2000 ∷ [];
  taps = record { node = 2; cap = pos 1000 } ∷ [];
  sinks = 1 ∷ [];
}

pub tree_is : tree_of 58 n1 (wire_of netlist parasitics 4 n1) ≡ tree
unfolding tree_of nodes_of wire_of node_net net_of bits
tree_is = refl

pub couplings_are : couplings_of (wire_of netlist parasitics 4 n1) ≡ record { to = record { 0 = 5 }; cap = pos 1000 } ∷ []
unfolding couplings_of wire_of node_net net_of bits
couplings_are = refl
