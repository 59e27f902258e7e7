use Rattle.std.proofs.Common.{◌≡◌, ◌-◌, ◌^◌, min, take}
use Rattle.std.specs.List.{sum_by}
use Rattle.xt_model.specs.Sound.{reads_of}
use Rattle.sound_parts.proofs.limits.reads_in_all.Given as goal

abbrev pub invariant-loop-net : goal.invariant-loop-net
invariant-loop-net l = l.total ≡ min (sum_by (reads_of l.parts) (take l.net-index l.parts.nets)) (2 ^ 64 - 1)
