use Rattle.std.proofs.Common.{ℕ, ◌<◌, IfSome, slice_get}
use Rattle.xt_model.specs.Sound.{IsSoundNet}
use Rattle.sound_parts.proofs.sound.has_sound_nets.Given as goal

abbrev pub invariant-loop-number : goal.invariant-loop-number
invariant-loop-number l = (k : ℕ) → k < l.number → IfSome (slice_get l.parts.nets k) (IsSoundNet l.parts k)
