use Rattle.std.proofs.Common.{◌≤◌}
use Rattle.link_pins.proofs.related.group_count.Given as goal

abbrev pub invariant-loop-place : goal.invariant-loop-place
invariant-loop-place l = l.count ≤ l.place
