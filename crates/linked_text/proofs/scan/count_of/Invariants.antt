use Rattle.std.proofs.Common.{◌≡◌, ◌+◌, eqb, length}
use Rattle.std.specs.List.{count_by}
use Rattle.linked_text.proofs.scan.count_of.Given as goal

abbrev pub invariant-lanes : goal.invariant-lanes
invariant-lanes l = l.count + count_by (λ b. eqb b l.mark) l.rest ≡ count_by (λ b. eqb b l.mark) l.bytes

abbrev pub decreases-lanes : goal.decreases-lanes
decreases-lanes l = length l.rest
