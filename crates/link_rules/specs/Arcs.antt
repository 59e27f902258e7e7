-- The timing arcs into a net (Liberty reference manual: timing groups of an output pin).
use Rattle.std.specs.Prelude.{ℕ, ◌==◌, ◌&&◌, Bool, List, [], ◌∷◌, find, position, flat_map, filter_map}
use Rattle.std.specs.Prelude.{Option, Some, None, bytes_eq}
use Rattle.xt_model.specs.Options.{◌>>=◌}
use Rattle.name_numbers.specs.Names.{Text}
use Rattle.xt_model.specs.declared.edge.Edge.{Edge}
use Rattle.xt_model.specs.declared.edge.Edge.TheVariants.{Rise, Fall}
use Rattle.xt_model.specs.declared.net.TimingArc.{TimingArc}
use Rattle.liberty_cells.specs.declared.library.Library.{Library}
use Rattle.liberty_cells.specs.declared.timing.Timing.{Timing}
use Rattle.liberty_cells.specs.declared.timing.TimingKind.{TimingKind}
use Rattle.liberty_cells.specs.declared.timing.TimingKind.TheVariants as kinds
use Rattle.liberty_cells.specs.declared.timing.Sense.{Sense}
use Rattle.liberty_cells.specs.declared.timing.Sense.TheVariants as senses
use Rattle.verilog_net.specs.declared.netlist.Netlist.{Netlist}
use Rattle.link_rules.specs.Pins.{Connected, is_input, pins, inputs_on, outputs_on}

-- the pairs of an input's edge and an output's edge of a timing group: a rising edge of the input starts both edges of
-- a flip-flop's output, whatever the sense says
abbrev pub edge_pairs : TimingKind → Sense → List (Edge × Edge)
edge_pairs kinds.RisingEdge sense = (Rise, Rise) ∷ (Rise, Fall) ∷ []
edge_pairs kinds.Combinational senses.Positive = (Rise, Rise) ∷ (Fall, Fall) ∷ []
edge_pairs kinds.Combinational senses.Negative = (Rise, Fall) ∷ (Fall, Rise) ∷ []
edge_pairs kinds.Combinational senses.Non = (Rise, Rise) ∷ (Rise, Fall) ∷ (Fall, Rise) ∷ (Fall, Fall) ∷ []
edge_pairs _ sense = []

-- two table numbers, where both are there
abbrev pub both : Option ℕ → Option ℕ → Option (ℕ × ℕ)
both (Some delay) (Some slew) = Some (delay, slew)
both _ _ = None

-- the delay table and the slew table of an output's edge
abbrev pub tables_at : Timing → Edge → Option (ℕ × ℕ)
tables_at t Rise = both t.rise t.rise_slew
tables_at t Fall = both t.fall t.fall_slew

-- a sink, by the number of its net and its own number there
abbrev pub Place : Type 0
Place = ℕ × ℕ

-- the arc from a sink for a pair of edges; without tables for the output's edge there is none
abbrev pub arc_by : Timing → Place → Edge × Edge → Option TimingArc
arc_by t at pair = do
  tables ← tables_at t pair.1
  Some (record {
    from = record { 0 = at.0 };
    sink = at.1;
    input = pair.0;
    output = pair.1;
    delay = tables.0;
    slew = tables.1;
  })

-- the arcs of a timing group from a related pin, where that is a sink of a net
abbrev pub arcs_from : Timing → Option Place → List TimingArc
arcs_from t None = []
arcs_from t (Some at) = filter_map (arc_by t at) (edge_pairs t.kind t.sense)

module _ (library : Library) (netlist : Netlist) where
  -- the input pin of this name of the instance of this number
  abbrev pub is_input_pin : ℕ → Text → Connected → Bool
  is_input_pin instance name c = c.instance == instance && bytes_eq name c.pin.name && is_input c.pin.role

  -- the sink that an input pin of an instance is: its net, and where it stands among the sinks of the net
  unfoldable pub sink_at : ℕ → Text → Option Place
  sink_at instance name = do
    c ← find (is_input_pin instance name) (pins library netlist)
    k ← position (is_input_pin instance name) (inputs_on library netlist c.net)
    Some (c.net, k)

  -- the arcs of an output pin: timing groups in the order of the library, related pins in order, pairs of edges
  abbrev pub pin_arcs : Connected → List TimingArc
  pin_arcs c =
      flat_map (λ t. flat_map (λ related. arcs_from t (sink_at c.instance related)) t.related) c.pin.timings

  -- the arcs into a net are those of the output pin that drives it
  unfoldable pub arcs_of : ℕ → List TimingArc
  arcs_of net = flat_map pin_arcs (outputs_on library netlist net)
