use Rattle.std.proofs.Common.{◌≡◌, ◌+◌, ◌-◌, ◌*◌, ◌<◌, ◌≤◌, length}
use Rattle.std.specs.Prelude.{IsTrue, IsFalse}
use Rattle.chaos_core.specs.Memories.{AreKept}
use Rattle.chaos_core.specs.Rounds.{AreClosed, AreTurns}
use Rattle.dirty_words.specs.Boards.{IsAlone, IsFree, IsOf}
use Rattle.dirty_run.specs.Rounds.{AreIdle, AreMarkedTurns}
use Rattle.dirty_run.proofs.Rounds.{HasLast}
use Rattle.dirty_run.proofs.settling.run_rounds.Given as goal

abbrev pub invariant-rounds : goal.invariant-rounds
invariant-rounds g l = record {
  own : IsOf l.run.board.now l.first;
  alone : IsAlone l.first.view;
  free : IsFree l.first.view;
  idle : AreIdle l.run.design.now l.run.lists.now l.workers;
  count : length l.workers.idle.items ≡ length l.fn.workers.idle.items;
  last : HasLast l.any l.first.view;
  kept : AreKept l.run.board.now.run.setting l.first.view.base.seen;
  closed : IsFalse l.any → AreClosed l.run.design.now l.first.view.base.seen;
  moving : IsTrue l.any → AreTurns l.run.board.now.run.setting l.rounds l.fn.first.view.base.seen l.first.view.base.seen;
  turns : AreMarkedTurns l.run.board.now.run.setting l.rounds l.fn.first.view.base.seen l.first.view.base.seen;
  split : 0 < l.rounds → l.first.view.base.split ≡ length l.fn.workers.idle.items;
  made : l.first.view.base.made ≤ l.fn.first.view.base.made + 8 * length l.run.design.now.nets * l.rounds;
}

abbrev pub decreases-rounds : goal.decreases-rounds
decreases-rounds g l = l.bound + 1 - l.rounds
