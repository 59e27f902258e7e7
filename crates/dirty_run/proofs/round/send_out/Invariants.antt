use Rattle.std.proofs.Common.{◌≡◌, ◌+◌, length}
use Rattle.std.specs.List.{All}
use Rattle.dirty_words.specs.Boards.{IsOf}
use Rattle.dirty_run.specs.Rounds.{IsSent, AreRoomy}
use Rattle.dirty_run.proofs.Parts.{IsSending}
use Rattle.dirty_run.proofs.round.send_out.Given as goal

abbrev pub invariant-passes : goal.invariant-passes
invariant-passes g l = record {
  own : IsOf l.run.board.now l.first;
  sending : IsSending l.initial.first.view (length l.workers.seated.items) l.first.view;
  count : length l.workers.idle.items + length l.workers.seated.items ≡ length l.initial.workers.idle.items;
  sent : All (IsSent l.run.design.now l.run.lists.now l.initial.first) l.workers.seated.items;
  roomy : AreRoomy l.run.design.now l.run.lists.now l.workers;
}

abbrev pub decreases-passes : goal.decreases-passes
decreases-passes g l = length l.workers.idle.items
