use Rattle.std.proofs.Common.{◌≡◌, length, take}
use Rattle.std.specs.List.{sum_by}
use Rattle.report_text.proofs.size.coupling_count.Given as goal

abbrev pub invariant-loop-net : goal.invariant-loop-net
invariant-loop-net l = l.count ≡ sum_by (λ n. length n.couplings) (take l.net-index l.net-items)
