use Rattle.std.proofs.Common.{◌≡◌, take}
use Rattle.link_pins.specs.Places.{is_sink}
use Rattle.link_pins.specs.Related.{counted}
use Rattle.link_pins.proofs.found.count_by_pins.Given as goal

abbrev pub invariant-loop-one : goal.invariant-loop-one
invariant-loop-one l = l.count ≡ counted (is_sink l.places.at.items) (take l.one-index l.counts)
