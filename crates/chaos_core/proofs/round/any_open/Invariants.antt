use Rattle.std.proofs.Common.{ℕ, ◌<◌, get_or}
use Rattle.chaos_core.specs.declared.worker.Worker.{Worker}
use Rattle.chaos_core.specs.Tasks.{task_of}
use Rattle.chaos_core.specs.Runs.{IsDone}
use Rattle.chaos_core.proofs.round.any_open.Given as goal

abbrev pub invariant-loop-worker : goal.invariant-loop-worker
invariant-loop-worker l = (k : ℕ) (x : Worker) → k < l.worker-index → IsDone (task_of (get_or l.workers k x))
