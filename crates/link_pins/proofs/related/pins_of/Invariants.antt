use Rattle.std.proofs.Common.{◌≡◌, map, take}
use Rattle.link_pins.specs.Timed.{TimedPlace}
use Rattle.link_pins.proofs.related.pins_of.Given as goal

abbrev pub invariant-loop-place : goal.invariant-loop-place
invariant-loop-place l = l.pins.items ≡ map (λ (r : TimedPlace). r.1) (take l.place l.related.items)
