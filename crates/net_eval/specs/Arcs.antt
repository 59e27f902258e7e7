-- The arcs of a net, with the range of its load at hand.
use Rattle.std.specs.Prelude.{ℕ, ◌&&◌, if◌then◌else◌}
use Rattle.std.specs.List.{slice_get}
use Rattle.xt_model.specs.declared.edge.Edge.{Edge}
use Rattle.xt_model.specs.declared.quad.Quad.{Quad}
use Rattle.xt_model.specs.declared.net.TimingArc.{TimingArc}
use Rattle.xt_model.specs.Quads.{is_live, join_of, same_edge}
use Rattle.xt_model.specs.declared.net.Net.{Net}
use Rattle.xt_meaning.specs.Operator.{Range, load_range, wire_range, contribution_by, contributes}
use Rattle.xt_meaning.specs.Wires.{wire_delay}
use Rattle.miller_bits.specs.Victims.{VictimEdge}
use Rattle.xt_model.specs.Parts.{Parts}
use Rattle.net_eval.specs.Scenes.{Scene}

-- the delay of the wire from an edge of a net to one of its sinks, with its couplings at their least and at their
-- greatest factors
abbrev pub wire_of : VictimEdge → ℕ → Range
wire_of v sink = record { least = wire_delay v.least v.net sink; most = wire_delay v.greatest v.net sink }

-- the range of the load of net number n, which is `net`, at edge e
abbrev pub load_in : Scene → ℕ → Edge → Net → Range
load_in s n e net = load_range s.design.miller s.answers n e net

-- what arc `a` contributes to a net with this range of loads
abbrev pub contribution_at : Scene → Range → TimingArc → Quad
contribution_at s load a =
    contribution_by
    s.design
    a
    (s.windows a.from.0 a.input)
    (wire_range s.design.miller s.answers a.from.0 a.input a.sink (slice_get s.design.nets a.from.0))
    load

-- a window of edge e, joined with what an arc to that edge makes of the window at its input, where it can switch,
-- behind a wire of this range
abbrev pub joined : Parts → Edge → Range → Quad → TimingArc → Quad → Range → Quad
joined d e load q a input wire =
    if same_edge a.output e && is_live input then join_of q (contribution_by d a input wire load) else q

-- a window, joined with what the arc contributes to edge e
abbrev pub with_arc_at : Scene → Edge → Range → Quad → TimingArc → Quad
with_arc_at s e load q a = if contributes s.windows e a then join_of q (contribution_at s load a) else q
