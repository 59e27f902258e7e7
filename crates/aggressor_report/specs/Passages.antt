-- What a path spends on an arc, piece by piece.
use Rattle.std.specs.Prelude.{Bool, if◌then◌else◌, ℤ, ◌+ℤ◌, Option, Some, None}
use Rattle.std.specs.List.{slice_get}
use Rattle.std.specs.Option.{option_and_then}
use Rattle.std.specs.Ordering.{int_eq}
use Rattle.xt_model.specs.declared.edge.Edge.{Edge}
use Rattle.xt_model.specs.declared.quad.Quad.{Quad}
use Rattle.xt_model.specs.declared.net.TimingArc.{TimingArc}
use Rattle.xt_model.specs.Quads.{same_edge}
use Rattle.xt_model.specs.Parts.{Parts}
use Rattle.xt_model.specs.Assign.{Assignment}
use Rattle.xt_meaning.specs.Lookup.{Box}
use Rattle.xt_meaning.specs.Operator.{Range, delay_range}
use Rattle.sink_windows.specs.declared.sink.SinkWindow.{SinkWindow}
use Rattle.sink_windows.specs.Sinks.{sink_window}
use Rattle.aggressor_report.specs.declared.passage.Passage.{Passage}

-- the latest time of a window, or its earliest
abbrev pub bound_of : Bool → Quad → ℤ
bound_of late q = if late then q.thi else q.tlo

-- the greatest of a range, or its least
abbrev pub end_of : Bool → Range → ℤ
end_of late r = if late then r.most else r.least

-- the delay of the wire to a sink that goes with the latest time there, or with the earliest
abbrev pub wire_at : Bool → SinkWindow → ℤ
wire_at late s = if late then s.greatest_wire else s.least_wire

-- what is spent on the way to a sink and on an arc with this range of delays
abbrev pub spent : Bool → SinkWindow → Range → Passage
spent late s delay = record {
  wire = wire_at late s;
  delay = end_of late delay;
  time = bound_of late s.window +ℤ end_of late delay;
}

-- the slews of a window at an arc's input by the loads that the arc drives
abbrev pub pin_box : Quad → Range → Box
pin_box q load = record { s0 = q.slo; s1 = q.shi; c0 = load.least; c1 = load.most }

-- what is spent on an arc into a net with this range of loads; none where its input never switches
abbrev pub passage_by : Bool → Parts → Assignment → Range → TimingArc → Option Passage
passage_by late d W load a =
    option_and_then
    (λ input. Some (spent late input (delay_range (slice_get d.tables a.delay) (pin_box input.window load))))
    (sink_window d W a.from.0 a.input a.sink)

-- of what is spent on an arc, that which leads to this bound
abbrev pub leading_to : ℤ → Passage → Option Passage
leading_to bound p = if int_eq p.time bound then Some p else None

-- what is spent on an arc which drives edge e and leads to this bound; none for another arc
abbrev pub passage_to : Bool → Parts → Assignment → Range → Edge → ℤ → TimingArc → Option Passage
passage_to late d W load e bound a =
    if same_edge a.output e then option_and_then (leading_to bound) (passage_by late d W load a) else None
