use Rattle.std.proofs.Common.{◌≡◌, ℕ, List}
use Rattle.xt_model.specs.Levels.{IsOrder}
use Rattle.xt_meaning.specs.Words.{numbers_of}
use Rattle.chaos_core.specs.Tasks.{idle}
use Rattle.chaos_core.specs.Rounds.{ArePicks}
use Rattle.chaos_core.specs.OnlyWorker.{only_at}
use Rattle.chaos_core.specs.TurnMarks.{AreMarks}
use Rattle.chaos_core.proofs.alone.round_alone.Given as goal

abbrev pub invariant-loop-place : goal.invariant-loop-place
invariant-loop-place l = record {
  setting : l.board.setting ≡ l.initial.board.setting;
  numbers : numbers_of l.windows ≡ l.board.words;
  marks : AreMarks l.design l.board.words l.marks;
  path : (order : List ℕ) → IsOrder l.design.nets order → (n : ℕ)
      × ArePicks l.initial.board.setting l.lists order n (record { source = l.initial.source.state; state = only_at 0 l.initial.board.words idle })
      (record { source = l.source.state; state = only_at l.place l.board.words idle });
}
