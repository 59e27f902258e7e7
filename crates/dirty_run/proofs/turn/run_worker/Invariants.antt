use Rattle.std.proofs.Common.{ℕ, ◌+◌, ◌-◌, ◌<◌, ◌≤◌, List, length}
use Rattle.xt_model.specs.Levels.{IsOrder}
use Rattle.chaos_core.proofs.Running.{above}
use Rattle.window_words.specs.Boards.{late_of}
use Rattle.dirty_words.specs.Boards.{IsFree, IsOf}
use Rattle.dirty_run.specs.Visits.{HasRoom}
use Rattle.dirty_run.specs.Turns.{HasTurned}
use Rattle.dirty_run.proofs.turn.run_worker.Given as goal

abbrev pub invariant-places : goal.invariant-places
invariant-places g l = record {
  own : IsOf l.run.board.now l.pass;
  turned : (order : List ℕ) → IsOrder l.run.design.now.nets order → HasTurned order l.fn.pass.view l.pass.view;
  free : IsFree l.pass.view;
  room : HasRoom l.run.design.now l.run.lists.now l.worker;
  few : above l.pass.view.base.drawn ≤ length l.run.design.now.nets;
  late : 0 < late_of l.pass.view.base;
}

abbrev pub decreases-places : goal.decreases-places
decreases-places g l = length l.run.design.now.nets + 1 - above l.pass.view.base.drawn
