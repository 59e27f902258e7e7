use Rattle.std.proofs.Common.{ℕ, ◌+◌, ◌%◌, ◌<◌, length, map, get_or}
use Rattle.chaos_core.specs.Tasks.{done, task_of}
use Rattle.chaos_core.specs.Runs.{IsDone}
use Rattle.chaos_core.proofs.round.next_open.Given as goal

abbrev pub invariant-loop-ahead : goal.invariant-loop-ahead
invariant-loop-ahead l = (i : ℕ) → i < l.ahead → IsDone (get_or (map task_of l.workers) ((l.number + i) % length l.workers) done)
