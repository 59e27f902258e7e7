-- The sizes of a design by the pins and the wires of its nets.
use Rattle.std.specs.Prelude.{ℕ, List, [], ◌∷◌, map, length, pos, Option, None, unwrap_or, option_map}
use Rattle.std.specs.List.{sum_by, slice_get}
use Rattle.xt_model.specs.declared.net.Net.{Net}
use Rattle.xt_model.specs.declared.fault.LimitKind.TheVariants as limits
use Rattle.xt_model.specs.Limits.{most_tables, most_checks, most_couplings, most_coefficients, most_arcs, most_reads}
use Rattle.xt_model.specs.Miller.{classical}
use Rattle.xt_model.specs.Parts.{Parts}
use Rattle.xt_model.specs.Sound.{reads_of}
use Rattle.liberty_cells.specs.declared.library.Library.{Library}
use Rattle.elmore_tree.specs.Trees.{ground_sum}
use Rattle.link_rules.specs.declared.circuit.NetPins.{NetPins}
use Rattle.link_rules.specs.declared.circuit.Circuit.{Circuit}
use Rattle.link_rules.specs.declared.fault.LinkFault.{LinkFault}
use Rattle.link_rules.specs.Limits.{or_fault, passed}
use Rattle.link_wires.specs.declared.wire.NetWire.{NetWire}
use Rattle.design_link.specs.Nets.{plain_sink}

-- a net without the form of its wire
abbrev pub plain_net : NetPins → NetWire → Net
plain_net p w = record {
  name = p.name;
  input = p.input;
  load = pos (ground_sum w.tree.ground);
  given = p.given;
  couplings = w.couplings;
  sinks = map plain_sink p.sinks;
  arcs = p.arcs;
}

abbrev pub plain_nets : List NetPins → List NetWire → List Net
plain_nets [] ws = []
plain_nets (p ∷ ps) [] = []
plain_nets (p ∷ ps) (w ∷ ws) = plain_net p w ∷ plain_nets ps ws

-- the parts of a design that its sizes count
abbrev pub plain_parts : Library → Circuit → List NetWire → Parts
plain_parts library c ws = record {
  period = None;
  tables = library.tables;
  nets = plain_nets c.nets ws;
  checks = c.checks;
  miller = classical;
}

-- how many couplings wires have in all, and how many arcs nets have in all
abbrev pub couplings_sum : List NetWire → ℕ
couplings_sum ws = sum_by (λ w. length w.couplings) ws

abbrev pub arcs_sum : List NetPins → ℕ
arcs_sum ps = sum_by (λ p. length p.arcs) ps

-- how many couplings the wire of this number has
abbrev pub couplings_in : List NetWire → ℕ → ℕ
couplings_in ws k = unwrap_or (option_map (λ w. length w.couplings) (slice_get ws k)) 0

-- the first limit that these numbers of couplings, coefficients, arcs, tables and check points pass
abbrev pub sizes_fault : ℕ → ℕ → ℕ → ℕ → ℕ → Option LinkFault
sizes_fault couplings coefficients arcs tables checks =
    or_fault (passed limits.Couplings None couplings most_couplings)
    (or_fault (passed limits.Coefficients None coefficients most_coefficients)
    (or_fault (passed limits.Arcs None arcs most_arcs)
    (or_fault (passed limits.Tables None tables most_tables)
    (passed limits.Checks None checks most_checks))))

-- whether the limit of reads is passed
abbrev pub reads_fault : Parts → Option LinkFault
reads_fault d = passed limits.Reads None (sum_by (reads_of d) d.nets) most_reads
