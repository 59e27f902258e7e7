use Rattle.std.proofs.Common.{◌≡◌, length}
use Rattle.dirty_run.specs.Rounds.{AreIdle}
use Rattle.dirty_run.proofs.round.leave_notes.Given as goal

abbrev pub invariant-loop-number : goal.invariant-loop-number
invariant-loop-number g l = record {
  idle : AreIdle l.run.design.now l.run.lists.now l.workers;
  count : length l.workers.idle.items ≡ length l.fn.workers.idle.items;
}
