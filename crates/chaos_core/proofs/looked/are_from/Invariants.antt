use Rattle.std.proofs.Common.{◌≡◌, ℕ, ◌+◌, ◌<◌}
use Rattle.std.specs.Prelude.{slice_index}
use Rattle.xt_meaning.specs.Words.{number_for}
use Rattle.chaos_core.specs.Tasks.{bound_at}
use Rattle.chaos_core.proofs.looked.are_from.Given as goal

abbrev pub invariant-loop-place : goal.invariant-loop-place
invariant-loop-place l = (i : ℕ) → i < l.place → slice_index l.numbers (l.from + i) ≡ number_for (bound_at l.pair i)
