-- What is gathered for each net, pin by pin.
use Rattle.std.specs.Prelude.{◌≡◌, ℕ, nat_le, ◌==◌, ◌&&◌, List, ◌++◌, length, map, filter, flat_map, take, Some}
use Rattle.std.specs.List.{slice_get, slice_index}
use Rattle.liberty_cells.specs.declared.library.Library.{Library}
use Rattle.verilog_net.specs.declared.netlist.Netlist.{Netlist}
use Rattle.verilog_net.specs.Nets.{Nets}
use Rattle.sdc_read.specs.declared.constraints.Constraints.{Constraints}
use Rattle.link_rules.specs.declared.circuit.Sink.{Sink}
use Rattle.xt_model.specs.declared.check.CheckPoint.{CheckPoint}
use Rattle.link_rules.specs.Arcs.{pin_arcs}
use Rattle.verilog_net.specs.Bits.{Bit, bits}
use Rattle.link_rules.specs.Checks.{pin_checks}
use Rattle.link_rules.specs.Circuit.{port_drivers, first_of, pin_sink, sinks_of}
use Rattle.link_rules.specs.Ends.{NetEnd}
use Rattle.link_rules.specs.Pins.{Connected, end_of, is_input, is_output}
use Rattle.link_pins.specs.declared.drivers.Driver.{Driver}
use Rattle.link_pins.specs.declared.sinks.NetSinks.{NetSinks}
use Rattle.link_pins.specs.declared.timings.NetArcs.{NetArcs}

-- the input pins on a net among these pins, and the output pins on it
abbrev pub inputs_in : ℕ → List Connected → List Connected
inputs_in net cs = filter (λ c. is_input c.pin.role && c.net == net) cs

abbrev pub outputs_in : ℕ → List Connected → List Connected
outputs_in net cs = filter (λ c. is_output c.pin.role && c.net == net) cs

-- what drives a net by its port and by those of these pins that are on it
abbrev pub drivers_by : List Connected → ℕ → Bit → List NetEnd
drivers_by cs net b = port_drivers b b.role ++ map end_of (outputs_in net cs)

-- the first of these drivers, and whether there is another
pub record IsDriver (d : Driver) (ends : List NetEnd) : Type 0 where
  pub first : d.end ≡ first_of ends
  pub twice : d.twice ≡ nat_le 2 (length ends)

-- the drivers of all nets by their ports and these pins
pub record AreDrivers (nets : Nets) (cs : List Connected) (drivers : List Driver) : Type 0 where
  pub count : length drivers ≡ length (bits nets)
  pub each : (net : ℕ) (b : Bit) (d : Driver) → slice_get (bits nets) net ≡ Some b → slice_get drivers net ≡ Some d
      → IsDriver d (drivers_by cs net b)

-- the sinks of a net that these pins are
abbrev pub sinks_by : List Connected → ℕ → List Sink
sinks_by cs net = map pin_sink (inputs_in net cs)

-- the sinks of all nets that these pins are
pub record ArePinSinks (nets : Nets) (cs : List Connected) (rows : List NetSinks) : Type 0 where
  pub count : length rows ≡ length (bits nets)
  pub each : (net : ℕ) (row : NetSinks) → slice_get rows net ≡ Some row → row.sinks.items ≡ sinks_by cs net

-- the sinks of all nets
pub record AreSinks (library : Library) (netlist : Netlist) (constraints : Constraints) (rows : List NetSinks)
    : Type 0 where
  pub count : length rows ≡ length (bits netlist.nets)
  pub each : (net : ℕ) (b : Bit) (row : NetSinks) → slice_get (bits netlist.nets) net ≡ Some b
      → slice_get rows net ≡ Some row
      → row.sinks.items ≡ sinks_of library netlist constraints (net, b)

-- for each pin, how many input pins on its net stand before it
pub record ArePlaces (cs : List Connected) (places : List ℕ) : Type 0 where
  pub count : length places ≡ length cs
  pub each : (k : ℕ) (c : Connected) → slice_get cs k ≡ Some c
      → slice_index places k ≡ length (inputs_in c.net (take k cs))

-- the arcs into all nets from these pins
pub record HaveArcs (library : Library) (netlist : Netlist) (cs : List Connected) (rows : List NetArcs) : Type 0 where
  pub count : length rows ≡ length (bits netlist.nets)
  pub each : (net : ℕ) (row : NetArcs) → slice_get rows net ≡ Some row
      → row.arcs.items ≡ flat_map (pin_arcs library netlist) (outputs_in net cs)

-- with their check points
pub record AreTimed (library : Library) (netlist : Netlist) (cs : List Connected) (rows : List NetArcs)
    (points : List CheckPoint) : Type 0 where
  pub arcs : HaveArcs library netlist cs rows
  pub checks : points ≡ flat_map (pin_checks library netlist) cs
