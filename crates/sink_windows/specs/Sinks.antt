-- The window of an edge of a net at its sinks.
use Rattle.std.specs.Prelude.{ℕ, if◌then◌else◌, ◌+ℤ◌, Option, Some, None}
use Rattle.std.specs.List.{slice_get}
use Rattle.xt_model.specs.declared.edge.Edge.{Edge}
use Rattle.xt_model.specs.declared.quad.Quad.{Quad}
use Rattle.xt_model.specs.Quads.{is_live}
use Rattle.xt_model.specs.Parts.{Parts}
use Rattle.xt_model.specs.Assign.{Assignment}
use Rattle.xt_meaning.specs.Wires.{slew_growth}
use Rattle.xt_meaning.specs.Overlap.{overlap_answers}
use Rattle.xt_meaning.specs.Operator.{Range, wire_range}
use Rattle.sink_windows.specs.declared.sink.SinkWindow.{SinkWindow}

-- the least and the greatest delay of the wire from net number n to one of its sinks at edge e, in these windows
abbrev pub wire_in : Parts → Assignment → ℕ → Edge → ℕ → Range
wire_in d W n e sink = wire_range d.miller (overlap_answers d.period W) n e sink (slice_get d.nets n)

-- a window behind a wire: it comes later by the delay, and its slews have grown
abbrev pub behind : Quad → Range → Quad
behind q wire = record {
  tlo = q.tlo +ℤ wire.least;
  thi = q.thi +ℤ wire.most;
  slo = q.slo +ℤ slew_growth wire.least;
  shi = q.shi +ℤ slew_growth wire.most;
}

-- the same with the delays of the wire beside it
abbrev pub with_wire : Quad → Range → SinkWindow
with_wire q wire = record { window = behind q wire; least_wire = wire.least; greatest_wire = wire.most }

-- the window of an edge of a net at one of its sinks; none where the edge never switches
abbrev pub sink_window : Parts → Assignment → ℕ → Edge → ℕ → Option SinkWindow
sink_window d W n e sink = if is_live (W n e) then Some (with_wire (W n e) (wire_in d W n e sink)) else None
