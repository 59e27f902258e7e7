-- The pins of nets, from which the arcs and the check points of instances are still to be made.
use Rattle.std.specs.Prelude.{◌≡◌, ℕ, List, [], ◌∷◌, length, map, flat_map, Result, Ok, Err, None, if◌then◌else◌}
use Rattle.std.specs.List.{All, sum_by}
use Rattle.liberty_cells.specs.declared.library.Library.{Library}
use Rattle.verilog_net.specs.declared.netlist.Netlist.{Netlist}
use Rattle.sdc_read.specs.declared.constraints.Constraints.{Constraints}
use Rattle.link_rules.specs.declared.circuit.Circuit.{Circuit}
use Rattle.link_rules.specs.declared.circuit.NetPins.{NetPins}
use Rattle.link_rules.specs.declared.fault.LinkFault.{LinkFault}
use Rattle.link_rules.specs.Arcs.{pin_arcs}
use Rattle.verilog_net.specs.Bits.{bits}
use Rattle.link_rules.specs.Checks.{pin_checks, port_checks_from}
use Rattle.link_rules.specs.Circuit.{circuit_of}
use Rattle.link_rules.specs.Pins.{Connected, is_output, pins as pins_of}
use Rattle.link_rules.specs.Refusals.{driver_fault}
use Rattle.verilog_net.specs.Sound.{IsSoundNetlist}
use Rattle.link_pins.specs.declared.counts.Counts.{Counts}
use Rattle.link_pins.specs.declared.joined.Joined.{Joined}
use Rattle.link_pins.specs.declared.timings.NetArcs.{NetArcs}
use Rattle.link_pins.specs.Answers.{IsFound}
use Rattle.link_pins.specs.Places.{IsPlaced}
use Rattle.link_pins.specs.Rows.{ArePlaces}
use Rattle.link_pins.specs.Seen.{ArePins}

-- a net by its pins without the arcs into it
abbrev pub without_arcs : NetPins → NetPins
without_arcs p = record p { arcs = [] }

-- nets with the arcs into them
abbrev pub with_rows : List NetPins → List NetArcs → List NetPins
with_rows [] rows = []
with_rows (p ∷ ps) [] = []
with_rows (p ∷ ps) (r ∷ rows) = record p { arcs = r.arcs.items } ∷ with_rows ps rows

-- the pins on nets of a sound netlist with their places among the sinks, for so many nets as there are bits
pub record HasPins (library : Library) (netlist : Netlist) (j : Joined) : Type 0 where
  pub sound : IsSoundNetlist netlist
  pub count : length j.nets.items ≡ length (bits netlist.nets)
  pub pins : ArePins library netlist j.pins.items
  pub placed : All (IsPlaced library netlist) j.pins.items
  pub places : ArePlaces (pins_of library netlist) j.places.items

-- the nets without their arcs, the check points of ports, and the pins
pub record IsJoined (library : Library) (netlist : Netlist) (constraints : Constraints) (j : Joined) : Type 0 where
  pub nets : j.nets.items ≡ map without_arcs (circuit_of library netlist constraints).nets
  pub ports : j.ports.items ≡ port_checks_from library netlist constraints 0 (bits netlist.nets)
  pub pins : HasPins library netlist j

-- they are joined, where no net has two drivers; else the fault of the first that has
abbrev pub Joins : Library → Netlist → Constraints → Result Joined LinkFault → Type 0
Joins library netlist constraints (Ok j) =
    (driver_fault library netlist ≡ None) × IsJoined library netlist constraints j
Joins library netlist constraints (Err fault) = IsFound (driver_fault library netlist) fault

-- how many arcs a pin has into its net, which an output pin alone has
abbrev pub arc_count : Library → Netlist → Connected → ℕ
arc_count library netlist c = if is_output c.pin.role then length (pin_arcs library netlist c) else 0

-- how many arcs and check points nets have
pub record AreCounts (c : Circuit) (n : Counts) : Type 0 where
  pub arcs : n.arcs ≡ sum_by (λ p. length p.arcs) c.nets
  pub checks : n.checks ≡ length c.checks

-- the arcs and the check points of these pins, counted
pub record AreCounted (library : Library) (netlist : Netlist) (cs : List Connected) (n : Counts) : Type 0 where
  pub arcs : n.arcs ≡ sum_by (arc_count library netlist) cs
  pub checks : n.checks ≡ length (flat_map (pin_checks library netlist) cs)
