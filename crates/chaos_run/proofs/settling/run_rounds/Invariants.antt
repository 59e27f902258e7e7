use Rattle.std.proofs.Common.{◌≡◌, ◌↔◌, ◌+◌, ◌*◌, ◌<◌, length}
use Rattle.std.specs.Prelude.{IsTrue}
use Rattle.xt_meaning.specs.Barrier.{IsFittingStart}
use Rattle.xt_meaning.specs.Measure.{room}
use Rattle.xt_meaning.specs.Words.{numbers_of}
use Rattle.chaos_core.specs.Looks.{IsLook}
use Rattle.chaos_core.specs.Memories.{AreKept}
use Rattle.chaos_core.specs.Rounds.{AreClosed, AreTurns}
use Rattle.window_words.specs.Boards.{IsAlone, IsOf}
use Rattle.chaos_run.specs.Rounds.{AreIdle}
use Rattle.chaos_run.proofs.settling.run_rounds.Given as goal

abbrev pub invariant-rounds : goal.invariant-rounds
invariant-rounds g l = record {
  own : IsOf l.run.board.now l.first;
  alone : IsAlone l.first.view;
  idle : AreIdle l.run.lists.now l.workers;
  count : length l.workers.idle.items ≡ length l.fn.workers.idle.items;
  fits : IsFittingStart l.run.direction l.run.design.now l.windows;
  numbers : numbers_of l.windows ≡ l.first.view.seen;
  look : IsLook l.run.design.now l.windows l.marks;
  before : length l.before ≡ length l.run.design.now.nets;
  unmoved : length l.unmoved ≡ length l.run.design.now.nets;
  kept : AreKept l.run.board.now.setting l.first.view.seen;
  closed : IsTrue l.done ↔ AreClosed l.run.design.now l.first.view.seen;
  steps : AreTurns l.run.board.now.setting l.rounds l.fn.first.view.seen l.first.view.seen;
  split : 0 < l.rounds → l.first.view.split ≡ length l.fn.workers.idle.items;
  made : l.first.view.made ≡ l.fn.first.view.made + 8 * length l.run.design.now.nets * l.rounds;
}

abbrev pub decreases-rounds : goal.decreases-rounds
decreases-rounds g l = room l.run.direction l.windows
