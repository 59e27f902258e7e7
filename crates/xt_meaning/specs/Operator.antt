-- The window operator: what the windows of all nets make of each net's window (after Zhou 2003).
use Rattle.std.specs.Prelude.{ℕ, Bool, ◌&&◌, if◌then◌else◌, ℤ, pos, ◌+ℤ◌, List, [], ◌∷◌, Option, Some, None}
use Rattle.std.specs.List.{slice_get, fold}
use Rattle.xt_model.specs.declared.edge.Edge.{Edge}
use Rattle.xt_model.specs.declared.quad.Quad.{Quad}
use Rattle.xt_model.specs.declared.quad.Pair.{Pair}
use Rattle.xt_model.specs.declared.table.Table.{Table}
use Rattle.xt_model.specs.declared.net.TimingArc.{TimingArc}
use Rattle.xt_model.specs.declared.net.Net.{Net}
use Rattle.xt_model.specs.Quads.{bottom, is_live, join_of, quad_at, same_edge}
use Rattle.xt_model.specs.Miller.{MillerNumbers}
use Rattle.xt_model.specs.Parts.{Parts}
use Rattle.xt_model.specs.Assign.{Assignment, assigned}
use Rattle.xt_meaning.specs.Lookup.{Box, table_value, slew_value, least_over, greatest_over}
use Rattle.xt_meaning.specs.Wires.{load_of, wire_delay, slew_growth}
use Rattle.xt_meaning.specs.Overlap.{Answers, overlap_answers, all_overlap, least_factors, greatest_factors}

-- the least and the greatest of a quantity
pub record Range : Type 0 where
  pub least : ℤ
  pub most : ℤ

-- the delay of the wire of net number `n` at an edge to one of its sinks: with every coupling at its least
-- factor, and with every coupling at its greatest
abbrev pub wire_range : MillerNumbers → Answers → ℕ → Edge → ℕ → Option Net → Range
wire_range m b n e sink None = record { least = pos 0; most = pos 0 }
wire_range m b n e sink (Some net) = record {
  least = wire_delay (least_factors m b n e net.couplings) net sink;
  most = wire_delay (greatest_factors m b n e net.couplings) net sink;
}

-- the load of a net at an edge, at the same two settings of its couplings
abbrev pub load_range : MillerNumbers → Answers → ℕ → Edge → Net → Range
load_range m b n e net = record {
  least = load_of (least_factors m b n e net.couplings) net;
  most = load_of (greatest_factors m b n e net.couplings) net;
}

-- a slew table gives no slew below 0
abbrev pub delay_range : Option Table → Box → Range
delay_range None box = record { least = pos 0; most = pos 0 }
delay_range (Some t) box = record { least = least_over (table_value t) box; most = greatest_over (table_value t) box }

abbrev pub slew_range : Option Table → Box → Range
slew_range None box = record { least = pos 0; most = pos 0 }
slew_range (Some t) box = record { least = least_over (slew_value t) box; most = greatest_over (slew_value t) box }

-- the slews at the arc's input pin by the loads of the driven net
abbrev pub arc_box : Quad → Range → Range → Box
arc_box input wire load = record {
  s0 = input.slo +ℤ slew_growth wire.least;
  s1 = input.shi +ℤ slew_growth wire.most;
  c0 = load.least;
  c1 = load.most;
}

-- the output window of a cell: the input window, the wire before the pin, and the table's delays and slews
abbrev pub arc_quad : Quad → Range → Range → Range → Quad
arc_quad input wire delay slew = record {
  tlo = (input.tlo +ℤ wire.least) +ℤ delay.least;
  thi = (input.thi +ℤ wire.most) +ℤ delay.most;
  slo = slew.least;
  shi = slew.most;
}

-- what an arc contributes, with the input window, the wire's range and the load's range at hand
abbrev pub contribution_by : Parts → TimingArc → Quad → Range → Range → Quad
contribution_by d a input wire load =
    arc_quad input wire (delay_range (slice_get d.tables a.delay) (arc_box input wire load))
    (slew_range (slice_get d.tables a.slew) (arc_box input wire load))

-- what arc `a` of net number `n`, which is `net`, contributes to its edge e, with the overlap answers b
abbrev pub contribution : Parts → Answers → Assignment → ℕ → Net → Edge → TimingArc → Quad
contribution d b W n net e a =
    contribution_by d a (W a.from.0 a.input)
    (wire_range d.miller b a.from.0 a.input a.sink (slice_get d.nets a.from.0))
    (load_range d.miller b n e net)

-- an arc contributes to its output edge, where its input can switch
abbrev pub contributes : Assignment → Edge → TimingArc → Bool
contributes W e a = same_edge a.output e && is_live (W a.from.0 a.input)

abbrev pub with_arc : Parts → Answers → Assignment → ℕ → Net → Edge → Quad → TimingArc → Quad
with_arc d b W n net e q a = if contributes W e a then join_of q (contribution d b W n net e a) else q

-- a net without arcs has what it is given; another has the join of what its arcs contribute
abbrev pub arcs_quad : Parts → Answers → Assignment → ℕ → Net → Edge → List TimingArc → Quad
arcs_quad d b W n net e [] = quad_at net.given e
arcs_quad d b W n net e (a ∷ more) = fold (with_arc d b W n net e) bottom (a ∷ more)

abbrev pub net_quad : Parts → Answers → Assignment → ℕ → Edge → Option Net → Quad
net_quad d b W n e None = bottom
net_quad d b W n e (Some net) = arcs_quad d b W n net e net.arcs

-- the operator with the overlap answers given from outside
unfoldable pub operator_by : Parts → Answers → Assignment → Assignment
operator_by d b W n e = net_quad d b W n e (slice_get d.nets n)

-- the operator: the overlap answers are those of the windows themselves
abbrev pub operator : Parts → Assignment → Assignment
operator d W = operator_by d (overlap_answers d.period W) W

-- the operator where everything overlaps
abbrev pub widest_operator : Parts → Assignment → Assignment
widest_operator d W = operator_by d all_overlap W

-- the operator of a list of windows
abbrev pub step : Parts → List Pair → Assignment
step d v = operator d (assigned v)
