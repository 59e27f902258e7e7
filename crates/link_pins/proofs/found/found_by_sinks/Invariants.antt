use Rattle.std.proofs.Common.{take}
use Rattle.link_pins.proofs.IndexLaws.{AreHits}
use Rattle.link_pins.proofs.found.found_by_sinks.Given as goal

abbrev pub invariant-loop-pin : goal.invariant-loop-pin
invariant-loop-pin l = AreHits l.pins l.places.at.items (take l.pin-index l.pin-items) l.found.items
