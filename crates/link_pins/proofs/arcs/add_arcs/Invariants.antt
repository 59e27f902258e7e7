use Rattle.std.proofs.Common.{◌≡◌, ◌++◌, take}
use Rattle.std.specs.Prelude.{filter_map}
use Rattle.link_rules.specs.Arcs.{edge_pairs, arc_by}
use Rattle.link_pins.specs.Places.{place_of}
use Rattle.link_pins.proofs.arcs.add_arcs.Given as goal

abbrev pub invariant-loop-input : goal.invariant-loop-input
invariant-loop-input l =
    l.arcs.items ≡ l.initial.arcs.items ++ filter_map (arc_by l.timing (place_of l.from)) (take l.input-index (edge_pairs l.timing.kind l.timing.sense))
