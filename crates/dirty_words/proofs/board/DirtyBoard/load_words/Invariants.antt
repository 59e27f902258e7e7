use Rattle.std.proofs.Common.{◌≡◌, ◌*◌, ◌<◌, ◌≤◌, take}
use Rattle.std.specs.Prelude.{vec_capacity}
use Rattle.chaos_core.specs.Boards.{nets_of}
use Rattle.window_words.specs.Steps.{IsRested}
use Rattle.dirty_words.specs.Boards.{IsOf}
use Rattle.dirty_words.proofs.board.DirtyBoard.load_words.Given as goal

abbrev pub invariant-loop-word : goal.invariant-loop-word
invariant-loop-word l = record {
  own : IsOf l.fn.self l.first;
  view : l.first.view ≡ l.fn.first.view;
  room : 8 * nets_of l.fn.first.view.base.setting ≤ vec_capacity l.words;
  rested : 0 < l.word → IsRested l.fn.first.view.base;
  words : l.words.items ≡ take l.word l.fn.first.view.base.seen;
}
