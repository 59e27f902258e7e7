use Rattle.std.proofs.Common.{◌≡◌, length}
use Rattle.std.specs.List.{list_any}
use Rattle.link_rules.specs.Refusals.{is_odd_timing}
use Rattle.link_index.proofs.odd.is_odd_pin.Given as goal

abbrev pub invariant-timings : goal.invariant-timings
invariant-timings l = list_any (is_odd_timing l.cell) l.rest ≡ list_any (is_odd_timing l.cell) l.pin.timings

abbrev pub decreases-timings : goal.decreases-timings
decreases-timings l = length l.rest
