use Rattle.std.proofs.Common.{◌≡◌, ◌≤◌, ℕ, List, length, map, take}
use Rattle.std.specs.List.{All}
use Rattle.xt_model.specs.Levels.{IsOrder}
use Rattle.chaos_core.specs.Tasks.{task_of}
use Rattle.chaos_core.specs.Memories.{knowledge_of}
use Rattle.chaos_core.specs.Machine.{scheduled, state_of, count_open}
use Rattle.chaos_core.specs.Rounds.{HasRoom}
use Rattle.chaos_core.proofs.schedule.run_schedule.Given as goal

abbrev pub invariant-loop-pick : goal.invariant-loop-pick
invariant-loop-pick l = record {
  count : length l.workers ≡ length l.initial.workers;
  setting : l.board.setting ≡ l.initial.board.setting;
  state : (order : List ℕ) → IsOrder l.design.nets order
      → state_of l.board l.workers ≡ scheduled l.initial.board.setting l.lists order (state_of l.initial.board l.initial.workers) (take l.pick-index l.picks);
  rooms : All (HasRoom l.lists) l.workers;
  late : count_open (map task_of l.workers) ≤ (knowledge_of l.board).late;
}
