-- Sink pins of nets.
use Rattle.std.specs.Prelude.{◌≡◌, ℕ}
use Rattle.std.specs.List.{slice_get}
use Rattle.xt_model.specs.declared.edge.Edge.{Edge}
use Rattle.xt_model.specs.declared.edge.Edge.TheVariants.{Rise, Fall}
use Rattle.xt_model.specs.declared.net.TimingArc.{TimingArc}
use Rattle.xt_meaning.specs.Operator.{Range, wire_range}
use Rattle.net_eval.specs.declared.pin.Pin.{Pin}
use Rattle.net_eval.specs.declared.pin.PinEdge.{PinEdge}
use Rattle.net_eval.specs.Scenes.{Scene}

-- the range of the wire's delay to an edge of a pin
abbrev pub wire_to : PinEdge → Range
wire_to p = record { least = p.least_wire; most = p.greatest_wire }

-- the window of net number n at edge e, and the range of the wire to one of its sinks
pub record IsPinEdge (s : Scene) (n sink : ℕ) (e : Edge) (p : PinEdge) : Type 0 where
  pub window : p.window ≡ s.windows n e
  pub wire : wire_to p ≡ wire_range s.design.miller s.answers n e sink (slice_get s.design.nets n)

abbrev pub edge_of_pin : Pin → Edge → PinEdge
edge_of_pin p Rise = p.rise
edge_of_pin p Fall = p.fall

-- a sink pin of a net, at both edges
pub record IsPin (s : Scene) (p : Pin) : Type 0 where
  pub edges : (e : Edge) → IsPinEdge s p.net p.sink e (edge_of_pin p e)

-- the pin at which an arc begins
pub record IsInputPin (s : Scene) (a : TimingArc) (p : Pin) : Type 0 where
  pub pin : IsPin s p
  pub edges : (e : Edge) → IsPinEdge s a.from.0 a.sink e (edge_of_pin p e)
