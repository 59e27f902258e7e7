use Rattle.std.proofs.Common.{◌≡◌, take}
use Rattle.std.specs.Prelude.{flat_map}
use Rattle.std.specs.List.{slice_get}
use Rattle.link_pins.proofs.IndexLaws.{places_by}
use Rattle.link_pins.proofs.related.PinGroup.order.Given as goal

abbrev pub invariant-loop-at : goal.invariant-loop-at
invariant-loop-at l = l.order.items ≡ flat_map (λ j. places_by (slice_get l.self.counts.items j)) (take l.at-index l.at-items)
