use Rattle.std.proofs.Common.{◌≡◌, ℕ, ◌+◌, List, length}
use Rattle.std.specs.List.{All}
use Rattle.xt_model.specs.Levels.{IsOrder}
use Rattle.window_words.specs.Boards.{knowledge_of, IsFirst, IsOf}
use Rattle.chaos_run.specs.Rounds.{IsBack, AreRoomy}
use Rattle.chaos_run.proofs.Taken.{HasTaken}
use Rattle.chaos_run.proofs.round.take_back.Given as goal

abbrev pub invariant-passes : goal.invariant-passes
invariant-passes g l = record {
  own : IsOf l.run.board.now l.first;
  first : IsFirst l.first;
  out : l.first.view.out ≡ length l.workers.seated.items;
  split : l.first.view.split ≡ l.initial.first.view.split;
  count : length l.workers.idle.items + length l.workers.seated.items ≡ length l.initial.workers.seated.items;
  taken : (order : List ℕ) → IsOrder l.run.design.now.nets order
      → HasTaken order (length l.workers.idle.items) (knowledge_of l.initial.first) (knowledge_of l.first);
  back : All (IsBack l.run.board.now l.run.design.now l.run.lists.now l.initial.first) l.workers.seated.items;
  roomy : AreRoomy l.run.lists.now l.workers;
}

abbrev pub decreases-passes : goal.decreases-passes
decreases-passes g l = length l.workers.seated.items
