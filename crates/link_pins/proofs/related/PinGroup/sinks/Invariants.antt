use Rattle.std.proofs.Common.{◌≡◌, map, take}
use Rattle.std.specs.Prelude.{filter_map}
use Rattle.std.specs.List.{slice_get}
use Rattle.link_pins.specs.Related.{related_of}
use Rattle.link_pins.proofs.related.PinGroup.sinks.Given as goal

abbrev pub invariant-loop-place : goal.invariant-loop-place
invariant-loop-place l = map related_of l.sinks.items ≡ filter_map (slice_get l.self.related.items) (take l.place-index l.place-items)
