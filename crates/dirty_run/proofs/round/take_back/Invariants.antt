use Rattle.std.proofs.Common.{◌≡◌, ℕ, ◌+◌, List, length}
use Rattle.std.specs.List.{All}
use Rattle.xt_model.specs.Levels.{IsOrder}
use Rattle.dirty_words.specs.Boards.{IsFirst, IsFree, IsOf}
use Rattle.dirty_run.specs.Turns.{HasGathered}
use Rattle.dirty_run.specs.Rounds.{IsBack, AreRoomy}
use Rattle.dirty_run.proofs.round.take_back.Given as goal

abbrev pub invariant-passes : goal.invariant-passes
invariant-passes g l = record {
  own : IsOf l.run.board.now l.first;
  first : IsFirst l.first.view;
  free : IsFree l.first.view;
  out : l.first.view.base.out ≡ length l.workers.seated.items;
  count : length l.workers.idle.items + length l.workers.seated.items ≡ length l.initial.workers.seated.items;
  gathered : (order : List ℕ) → IsOrder l.run.design.now.nets order → HasGathered order (length l.workers.idle.items) l.initial.first.view l.first.view;
  back : All (IsBack l.run.board.now l.run.design.now l.run.lists.now l.initial.first) l.workers.seated.items;
  roomy : AreRoomy l.run.design.now l.run.lists.now l.workers;
}

abbrev pub decreases-passes : goal.decreases-passes
decreases-passes g l = length l.workers.seated.items
