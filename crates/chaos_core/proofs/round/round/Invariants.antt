use Rattle.std.proofs.Common.{◌≡◌, ℕ, ◌≤◌, List, length, map}
use Rattle.std.specs.List.{All}
use Rattle.xt_model.specs.Levels.{IsOrder}
use Rattle.chaos_core.specs.Tasks.{task_of}
use Rattle.chaos_core.specs.Steps.{IsFitting}
use Rattle.chaos_core.specs.Memories.{knowledge_of}
use Rattle.chaos_core.specs.Machine.{state_of, count_open}
use Rattle.chaos_core.specs.Rounds.{ArePicks, begun, play_at}
use Rattle.chaos_core.proofs.Countdown.{countdown, room_for}
use Rattle.chaos_core.proofs.round.round.Given as goal

abbrev pub invariant-picks : goal.invariant-picks
invariant-picks l = record {
  count : length l.workers ≡ length l.fn.workers;
  setting : l.board.setting ≡ l.fn.board.setting;
  path : (order : List ℕ) → IsOrder l.design.nets order → (n : ℕ)
      × ArePicks l.fn.board.setting l.lists order n (record { source = l.fn.source.state; state = begun (length l.fn.workers) l.fn.board.words }) (play_at l.source.state l.board l.workers);
  fits : All (IsFitting (knowledge_of l.board) l.lists) l.workers;
  late : count_open (map task_of l.workers) ≤ (knowledge_of l.board).late;
}

abbrev pub decreases-picks : goal.decreases-picks
decreases-picks l = countdown (room_for l.lists) (length l.design.nets) (state_of l.board l.workers)
