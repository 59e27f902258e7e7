use Rattle.std.proofs.Common.{◌≡◌, ◌++◌, take}
use Rattle.std.specs.Prelude.{flat_map}
use Rattle.link_pins.specs.Related.{arcs_of}
use Rattle.link_pins.proofs.arcs.add_pin_arcs.Given as goal

abbrev pub invariant-loop-one : goal.invariant-loop-one
invariant-loop-one l = l.arcs.items ≡ l.initial.arcs.items ++ flat_map (arcs_of l.places.at.items) (take l.one-index l.related)
