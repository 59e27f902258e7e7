use Rattle.std.proofs.Common.{◌≡◌, ◌++◌, length}
use Rattle.std.specs.Prelude.{filter_map, map}
use Rattle.link_rules.specs.Wires.{tap_of}
use Rattle.link_wires.specs.Seen.{cap_by, wire_by}
use Rattle.link_wires.proofs.charges.taps_of.Given as goal

abbrev pub invariant-caps : goal.invariant-caps
invariant-caps l =
    l.taps.items ++ filter_map (tap_of l.nodes.list (wire_by l.nodes.parasitics l.wire)) (map (cap_by l.nodes.parasitics) l.caps)
    ≡ filter_map (tap_of l.nodes.list (wire_by l.nodes.parasitics l.wire)) (map (cap_by l.nodes.parasitics) l.wire.caps.items)

abbrev pub decreases-caps : goal.decreases-caps
decreases-caps l = length l.caps
