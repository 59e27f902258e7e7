use Rattle.std.proofs.Common.{◌≡◌, take}
use Rattle.std.specs.List.{slice_get, sum_by}
use Rattle.link_pins.proofs.IndexLaws.{count_of}
use Rattle.link_pins.proofs.related.PinGroup.count.Given as goal

abbrev pub invariant-loop-at : goal.invariant-loop-at
invariant-loop-at l = l.count ≡ sum_by (λ j. count_of (slice_get l.self.counts.items j)) (take l.at-index l.at-items)
