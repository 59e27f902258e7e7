use Rattle.std.proofs.Common.{◌≡◌, ◌+◌, ◌-◌, ◌^◌, min, take}
use Rattle.std.specs.List.{sum_by}
use Rattle.xt_model.specs.Sound.{couplings_at}
use Rattle.sound_parts.proofs.limits.reads_by.Given as goal

abbrev pub invariant-loop-arc : goal.invariant-loop-arc
invariant-loop-arc l = l.total ≡ min (1 + l.own + sum_by (λ b. 1 + couplings_at l.parts b.from.0) (take l.arc-index l.arcs)) (2 ^ 64 - 1)
