use Rattle.std.proofs.Common.{◌≡◌, ℕ, ◌*◌, ◌<◌}
use Rattle.std.specs.Prelude.{slice_index}
use Rattle.xt_model.specs.Assign.{assigned, words_of}
use Rattle.xt_meaning.specs.Words.{bound_in}
use Rattle.net_eval.specs.ReadLists.{ids}
use Rattle.chaos_core.specs.Tasks.{word_to_load}
use Rattle.chaos_core.proofs.looked.Looked.has_numbers.Given as goal

abbrev pub invariant-loop-place : goal.invariant-loop-place
invariant-loop-place l = (i : ℕ) → i < 8 * l.place → bound_in (slice_index l.numbers i) ≡ words_of (assigned l.self.windows.now) (word_to_load (ids l.reads) i)
