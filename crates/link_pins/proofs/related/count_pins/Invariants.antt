use Rattle.std.proofs.Common.{take}
use Rattle.link_pins.specs.Related.{HaveCounts}
use Rattle.link_pins.proofs.related.count_pins.Given as goal

abbrev pub invariant-loop-place : goal.invariant-loop-place
invariant-loop-place l = HaveCounts l.role (take l.place l.related.items) l.pins l.counts
