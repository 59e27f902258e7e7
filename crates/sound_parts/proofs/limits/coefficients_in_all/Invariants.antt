use Rattle.std.proofs.Common.{◌≡◌, ◌-◌, ◌^◌, min, take}
use Rattle.std.specs.List.{sum_by}
use Rattle.xt_model.specs.Sound.{coefficients_of}
use Rattle.sound_parts.proofs.limits.coefficients_in_all.Given as goal

abbrev pub invariant-loop-net : goal.invariant-loop-net
invariant-loop-net l = l.total ≡ min (sum_by coefficients_of (take l.net-index l.nets)) (2 ^ 64 - 1)
