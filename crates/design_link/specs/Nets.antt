-- The nets of a design from their pins, their wires and the forms of these.
use Rattle.std.specs.Prelude.{◌≡◌, ℕ, ◌<◌, ◌^◌, List, [], length, map, pos, Some}
use Rattle.std.specs.List.{All, slice_get}
use Rattle.xt_model.specs.declared.net.Coupling.{Coupling}
use Rattle.xt_model.specs.declared.net.SinkPin.{SinkPin}
use Rattle.xt_model.specs.declared.net.Net.{Net}
use Rattle.xt_model.specs.Names.{IsName}
use Rattle.elmore_tree.specs.declared.form.WireForm.{WireForm}
use Rattle.elmore_tree.specs.Forms.{IsFormOf, IsAcceptedTree}
use Rattle.elmore_tree.specs.Sums.{IsSinkSums}
use Rattle.link_rules.specs.declared.circuit.Sink.{Sink}
use Rattle.link_rules.specs.declared.circuit.NetPins.{NetPins}
use Rattle.link_rules.specs.Ends.{sink_name}
use Rattle.link_rules.specs.Bare.{filled_sinks}
use Rattle.link_wires.specs.declared.wire.NetWire.{NetWire}

-- a sink before its sums are filled in
abbrev pub plain_sink : Sink → SinkPin
plain_sink s = record { name = sink_name s.end; base = pos 0; coefs = [] }

-- a net by its pins, its couplings and the form of its wire
abbrev pub net_by : NetPins → List Coupling → WireForm → Net
net_by p couplings f = record {
  name = p.name;
  input = p.input;
  load = f.load;
  given = p.given;
  couplings = couplings;
  sinks = filled_sinks (map plain_sink p.sinks) f.sinks;
  arcs = p.arcs;
}

-- the form of a wire, whose sums keep their ranges
pub record IsFormed (w : NetWire) (f : WireForm) : Type 0 where
  pub form : IsFormOf w.tree f
  pub sums : All IsSinkSums f.sinks

-- a net with some form of its wire; the numbers of its sinks fit 32 bits
pub record IsMade (p : NetPins) (w : NetWire) (n : Net) : Type 0 where
  pub form : WireForm
  pub formed : IsFormed w form
  pub is : n ≡ net_by p w.couplings form
  pub name : IsName p.name
  pub few : length p.sinks < 2 ^ 32

-- the wire is accepted, and its tree has the net's sinks
pub record Fits (p : NetPins) (w : NetWire) : Type 0 where
  pub accepted : IsAcceptedTree w.tree
  pub sinks : length w.tree.sinks ≡ length p.sinks

-- a wire that fits for each net
pub record FitAll (pins : List NetPins) (wires : List NetWire) : Type 0 where
  pub count : length wires ≡ length pins
  pub each : (i : ℕ) (p : NetPins) (w : NetWire) → slice_get pins i ≡ Some p → slice_get wires i ≡ Some w → Fits p w

-- a net for each, with some form of its wire
pub record AreMade (pins : List NetPins) (wires : List NetWire) (nets : List Net) : Type 0 where
  pub count : length nets ≡ length pins
  pub each : (i : ℕ) (p : NetPins) (w : NetWire) (n : Net) → slice_get pins i ≡ Some p → slice_get wires i ≡ Some w
      → slice_get nets i ≡ Some n → IsMade p w n
