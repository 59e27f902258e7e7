use Rattle.std.proofs.Common.{◌≡◌, ℕ, ◌<◌, length, get_or}
use Rattle.chaos_core.specs.declared.worker.Worker.{Worker}
use Rattle.chaos_core.specs.Tasks.{idle, places_of, room_of, task_of}
use Rattle.chaos_core.proofs.round.reset_all.Given as goal

abbrev pub invariant-loop-worker : goal.invariant-loop-worker
invariant-loop-worker l = record {
  count : length l.worker-items ≡ length l.initial.worker-items;
  idle : (k : ℕ) (x : Worker) → k < l.worker-index → task_of (get_or l.worker-items k x) ≡ idle;
  rooms : (k : ℕ) (x : Worker) → k < length l.worker-items → room_of (get_or l.worker-items k x) ≡ room_of (get_or l.initial.worker-items k x);
  places : (k : ℕ) (x : Worker) → k < length l.worker-items → places_of (get_or l.worker-items k x) ≡ places_of (get_or l.initial.worker-items k x);
}
