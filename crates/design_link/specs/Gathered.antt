-- What four values come to before the forms of wires are known.
use Rattle.std.specs.Prelude.{◌≡◌, List, None}
use Rattle.std.specs.List.{enumerate_from}
use Rattle.link_rules.specs.Bare.{Inputs, circuit, numbered, bare_parts}
use Rattle.link_rules.specs.Limits.{size_fault}
use Rattle.link_rules.specs.Link.{HasAcceptedPins, HasAcceptedWires}
use Rattle.link_pins.specs.declared.joined.Joined.{Joined}
use Rattle.link_pins.specs.Joined.{IsJoined}
use Rattle.link_wires.specs.declared.wire.NetWire.{NetWire}
use Rattle.link_wires.specs.Wires.{AreWires}
use Rattle.design_link.specs.declared.gathering.Gathered.{Gathered}

-- nothing is refused up to the wires, and there are the nets by their pins without arcs and the wires
pub record IsWired (x : Inputs) (j : Joined) (ws : List NetWire) : Type 0 where
  pub accepted : HasAcceptedPins x
  pub joined : IsJoined x.library x.netlist x.constraints j
  pub wires : AreWires x.netlist x.parasitics (enumerate_from 0 j.nets.items) ws

-- nothing is refused up to the sizes, and what is gathered are the nets by their pins, the check points and the wires
pub record IsGathered (x : Inputs) (g : Gathered) : Type 0 where
  pub accepted : HasAcceptedWires x
  pub sizes : size_fault (bare_parts x) ≡ None
  pub circuit : g.circuit ≡ circuit x
  pub wires : AreWires x.netlist x.parasitics (numbered x) g.wires.items
