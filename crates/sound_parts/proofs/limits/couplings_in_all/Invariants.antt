use Rattle.std.proofs.Common.{◌≡◌, ◌-◌, ◌^◌, length, min, take}
use Rattle.std.specs.List.{sum_by}
use Rattle.sound_parts.proofs.limits.couplings_in_all.Given as goal

abbrev pub invariant-loop-net : goal.invariant-loop-net
invariant-loop-net l = l.total ≡ min (sum_by (λ n. length n.couplings) (take l.net-index l.nets)) (2 ^ 64 - 1)
