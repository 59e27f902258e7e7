-- The design of a circuit and its parasitics but for the Elmore forms of its wires, which are filled in where each wire
-- is a tree.
use Rattle.std.specs.Prelude.{ℕ, List, [], ◌∷◌, map, pos, option_map}
use Rattle.std.specs.List.{enumerate_from}
use Rattle.name_numbers.specs.Names.{Text}
use Rattle.xt_model.specs.declared.net.SinkPin.{SinkPin}
use Rattle.xt_model.specs.declared.net.Net.{Net}
use Rattle.xt_model.specs.Miller.{classical}
use Rattle.xt_model.specs.Parts.{Parts}
use Rattle.liberty_cells.specs.declared.library.Library.{Library}
use Rattle.verilog_net.specs.declared.netlist.Netlist.{Netlist}
use Rattle.spef_read.specs.declared.parasitics.Parasitics.{Parasitics}
use Rattle.sdc_read.specs.declared.constraints.Constraints.{Constraints}
use Rattle.elmore_tree.specs.declared.form.WireForm.{WireForm}
use Rattle.elmore_tree.specs.Sums.{SinkSums}
use Rattle.elmore_tree.specs.Trees.{TreeParts, ground_sum}
use Rattle.link_rules.specs.declared.circuit.Sink.{Sink}
use Rattle.link_rules.specs.declared.circuit.NetPins.{NetPins}
use Rattle.link_rules.specs.declared.circuit.Circuit.{Circuit}
use Rattle.link_rules.specs.Ends.{sink_name}
use Rattle.link_rules.specs.Circuit.{circuit_of}
use Rattle.link_rules.specs.Wires.{Wire, wire_of, nodes_of, tree_of, couplings_of}

-- a net with its number
abbrev pub Numbered : Type 0
Numbered = ℕ × NetPins

module _ (netlist : Netlist) (parasitics : Parasitics) where
  abbrev pub wire : Numbered → Wire
  wire n = wire_of netlist parasitics n.0 n.1

  abbrev pub nodes : Numbered → List Text
  nodes n = nodes_of parasitics.delimiter n.1 (wire n)

  abbrev pub tree : Numbered → TreeParts
  tree n = tree_of parasitics.delimiter n.1 (wire n)

  -- a sink before its form is known
  abbrev pub bare_sink : Sink → SinkPin
  bare_sink s = record { name = sink_name s.end; base = pos 0; coefs = [] }

  -- a net before the form of its wire is known; its load is all its capacitance to ground
  unfoldable pub bare_net : Numbered → Net
  bare_net n = record {
    name = n.1.name;
    input = n.1.input;
    load = pos (ground_sum (tree n).ground);
    given = n.1.given;
    couplings = couplings_of (wire n);
    sinks = map bare_sink n.1.sinks;
    arcs = n.1.arcs;
  }

-- what is linked
pub record Inputs : Type 0 where
  pub library : Library
  pub netlist : Netlist
  pub parasitics : Parasitics
  pub constraints : Constraints

module _ (x : Inputs) where
  abbrev pub circuit : Circuit
  circuit = circuit_of x.library x.netlist x.constraints

  -- the nets in order
  abbrev pub numbered : List Numbered
  numbered = enumerate_from 0 circuit.nets

  unfoldable pub bare_nets : List Net
  bare_nets = map (bare_net x.netlist x.parasitics) numbered

  -- the tables are those of the library; the period is the clock's
  unfoldable pub bare_parts : Parts
  bare_parts = record {
    period = option_map (λ c. c.period) x.constraints.clock;
    tables = x.library.tables;
    nets = bare_nets;
    checks = circuit.checks;
    miller = classical;
  }

-- sinks with the sums of the wire's form
abbrev pub filled_sinks : List SinkPin → List SinkSums → List SinkPin
filled_sinks [] forms = []
filled_sinks (s ∷ more) [] = []
filled_sinks (s ∷ more) (f ∷ forms) =
    record { name = s.name; base = f.base; coefs = f.coefs } ∷ filled_sinks more forms

-- nets with the forms of their wires
abbrev pub filled_nets : List Net → List WireForm → List Net
filled_nets [] forms = []
filled_nets (n ∷ more) [] = []
filled_nets (n ∷ more) (f ∷ forms) = record n { sinks = filled_sinks n.sinks f.sinks } ∷ filled_nets more forms

-- the design with these forms
unfoldable pub parts_with : Inputs → List WireForm → Parts
parts_with x forms = record (bare_parts x) { nets = filled_nets (bare_nets x) forms }
