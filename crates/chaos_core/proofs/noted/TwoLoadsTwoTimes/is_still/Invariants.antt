use Rattle.std.proofs.Common.{◌≡◌, ℕ, ◌+◌, ◌<◌}
use Rattle.std.specs.Prelude.{slice_index}
use Rattle.chaos_core.proofs.noted.TwoLoadsTwoTimes.is_still.Given as goal

abbrev pub invariant-loop-place : goal.invariant-loop-place
invariant-loop-place l = (i : ℕ) → i < l.place → slice_index l.self.before.numbers.now (l.from + i) ≡ slice_index l.self.after.numbers.now (l.from + i)
