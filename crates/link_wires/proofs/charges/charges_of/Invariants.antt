use Rattle.std.proofs.Common.{◌≡◌, ◌+◌, ◌++◌, length}
use Rattle.std.specs.Prelude.{filter_map, map}
use Rattle.link_rules.specs.Wires.{sink_charges, ground_charge}
use Rattle.link_wires.specs.Seen.{cap_by, wire_by}
use Rattle.link_wires.proofs.charges.charges_of.Given as goal

abbrev pub invariant-sinks : goal.invariant-sinks
invariant-sinks l = record {
  count : l.k + length l.left ≡ length l.sinks;
  value : l.charges.items ++ sink_charges (wire_by l.nodes.parasitics l.wire) l.k l.left
      ≡ sink_charges (wire_by l.nodes.parasitics l.wire) 0 l.sinks;
}

abbrev pub decreases-sinks : goal.decreases-sinks
decreases-sinks l = length l.left

abbrev pub invariant-caps : goal.invariant-caps
invariant-caps l =
    l.charges.items ++ filter_map (ground_charge l.nodes.list (wire_by l.nodes.parasitics l.wire)) (map (cap_by l.nodes.parasitics) l.caps)
    ≡ sink_charges (wire_by l.nodes.parasitics l.wire) 0 l.sinks
    ++ filter_map (ground_charge l.nodes.list (wire_by l.nodes.parasitics l.wire)) (map (cap_by l.nodes.parasitics) l.wire.caps.items)

abbrev pub decreases-caps : goal.decreases-caps
decreases-caps l = length l.caps
