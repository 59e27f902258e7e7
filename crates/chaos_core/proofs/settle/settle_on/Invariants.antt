use Rattle.std.proofs.Common.{◌≡◌, ◌↔◌, ℕ, List, length}
use Rattle.std.specs.Prelude.{IsTrue}
use Rattle.std.specs.List.{All}
use Rattle.xt_model.specs.Levels.{IsOrder}
use Rattle.xt_meaning.specs.Barrier.{IsFittingStart}
use Rattle.xt_meaning.specs.Measure.{room}
use Rattle.xt_meaning.specs.Words.{numbers_of}
use Rattle.chaos_core.specs.Memories.{AreKept}
use Rattle.chaos_core.specs.Rounds.{HasRoom, AreRounds, pause_at}
use Rattle.chaos_core.specs.Knowing.{IsKnown}
use Rattle.chaos_core.proofs.Settling.{IsSteady}
use Rattle.chaos_core.proofs.settle.settle_on.Given as goal

abbrev pub invariant-rounds : goal.invariant-rounds
invariant-rounds g l = record {
  setting : l.board.setting ≡ l.fn.board.setting;
  count : length l.workers ≡ length l.fn.workers;
  rooms : All (HasRoom l.lists) l.workers;
  fits : IsFittingStart l.direction l.design l.windows;
  numbers : numbers_of l.windows ≡ l.board.words;
  known : IsKnown l.design (length l.fn.workers) l.board.words l.known;
  steady : IsTrue l.done ↔ IsSteady l.design l.windows;
  kept : AreKept l.fn.board.setting l.board.words;
  path : (order : List ℕ) → IsOrder l.design.nets order
      → AreRounds l.fn.board.setting l.lists order (length l.fn.workers) l.rounds (record { source = l.number; words = l.fn.board.words }) (pause_at l.source.state l.board);
}

abbrev pub decreases-rounds : goal.decreases-rounds
decreases-rounds g l = room l.direction l.windows
