use Rattle.std.proofs.Common.{◌≡◌, map, take}
use Rattle.std.specs.Prelude.{filter}
use Rattle.link_pins.specs.Related.{related_of, is_sink_at}
use Rattle.link_pins.proofs.found.sinks_among.Given as goal

abbrev pub invariant-loop-place : goal.invariant-loop-place
invariant-loop-place l = map related_of l.sinks.items ≡ filter (is_sink_at l.places.at.items) (take l.place l.related.items)
