use Rattle.std.proofs.Common.{◌<◌, ℕ, Contains}
use Rattle.chaos_core.specs.Boards.{nets_of}
use Rattle.chaos_core.specs.Rounds.{AreClosed}
use Rattle.window_words.specs.Steps.{IsRested}
use Rattle.dirty_words.specs.Boards.{IsOf}
use Rattle.dirty_run.specs.Turns.{HasLooked}
use Rattle.dirty_run.proofs.look.look.Given as goal

abbrev pub invariant-loop-net : goal.invariant-loop-net
invariant-loop-net l = record {
  own : IsOf l.board l.first;
  looked : HasLooked l.fn.first.view l.net l.any l.first.view;
  rested : 0 < l.net → IsRested l.fn.first.view.base;
  closing : 0 < l.net → ((n : ℕ) → n < nets_of l.first.view.base.setting → Contains l.first.view.clear n) → AreClosed l.first.view.base.setting.design l.first.view.base.seen;
}
