use Rattle.std.proofs.Common.{◌≡◌, ℕ, ◌<◌, length}
use Rattle.std.specs.Prelude.{slice_index}
use Rattle.net_eval.specs.ReadLists.{ids}
use Rattle.chaos_core.proofs.loaded.set_places.Given as goal

abbrev pub invariant-loop-place : goal.invariant-loop-place
invariant-loop-place l = record {
  count : length l.places ≡ length l.initial.places;
  each : (i : ℕ) → i < l.place → slice_index l.places (slice_index (ids l.reads) i) ≡ i;
}
