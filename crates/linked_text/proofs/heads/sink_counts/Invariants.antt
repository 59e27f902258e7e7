use Rattle.std.proofs.Common.{◌≡◌, take, map}
use Rattle.linked_text.proofs.heads.sink_counts.Given as goal

abbrev pub invariant-loop-head : goal.invariant-loop-head
invariant-loop-head l = l.counts.items ≡ map (λ h. h.sinks) (take l.head-index l.heads)
