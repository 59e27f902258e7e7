use Rattle.std.proofs.Common.{◌≡◌, take}
use Rattle.link_pins.specs.Places.{is_sink}
use Rattle.link_pins.specs.Related.{places_of}
use Rattle.link_pins.proofs.found.found_by_pins.Given as goal

abbrev pub invariant-loop-at : goal.invariant-loop-at
invariant-loop-at l = l.found.items ≡ places_of (is_sink l.places.at.items) 0 (take l.at l.pins)
