use Rattle.std.proofs.Common.{◌≡◌, ◌≤◌, length, take}
use Rattle.std.specs.Prelude.{filter_map}
use Rattle.link_rules.specs.Arcs.{Place, edge_pairs, arc_by}
use Rattle.link_pins.proofs.arcs.arcs_each.Given as goal

abbrev pub invariant-loop-output : goal.invariant-loop-output
invariant-loop-output l = record {
  most : l.count ≤ l.output-index;
  made : (at : Place) → l.count ≡ length (filter_map (arc_by l.timing at) (take l.output-index (edge_pairs l.timing.kind l.timing.sense)));
}
