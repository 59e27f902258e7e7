use Rattle.std.proofs.Common.{◌≡◌, ◌<◌, take}
use Rattle.window_words.specs.Boards.{IsOf}
use Rattle.window_words.specs.Steps.{IsRested}
use Rattle.window_words.proofs.board.SharedBoard.close.Given as goal

abbrev pub invariant-loop-word : goal.invariant-loop-word
invariant-loop-word l = record {
  own : IsOf l.fn.self l.first;
  view : l.first.view ≡ l.fn.first.view;
  rested : 0 < l.word → IsRested l.fn.first.view;
  words : l.words.items ≡ take l.word l.fn.first.view.seen;
}
