use Rattle.std.proofs.Common.{◌≡◌, ℕ, List, length}
use Rattle.xt_model.specs.Levels.{IsOrder}
use Rattle.chaos_core.specs.Tasks.{places_of, room_of, task_of}
use Rattle.chaos_core.specs.Steps.{AreSteps, IsFitting}
use Rattle.chaos_core.proofs.Running.{Running}
use Rattle.chaos_core.proofs.Ends.{ahead}
use Rattle.chaos_core.proofs.run.run_by.Given as goal

abbrev pub invariant-steps : goal.invariant-steps
invariant-steps g l = record {
  running : (order : List ℕ) → IsOrder l.design.nets order → Running l.lists order (g.B.Board.knows l.initial.board) (g.B.Board.knows l.board) (task_of l.worker);
  steps : (order : List ℕ) → IsOrder l.design.nets order → (count : ℕ) × AreSteps l.design l.lists order count (g.B.Board.knows l.initial.board) (task_of l.initial.worker) (g.B.Board.knows l.board) (task_of l.worker);
  fits : IsFitting (g.B.Board.knows l.board) l.lists l.worker;
  room : room_of l.worker ≡ room_of l.initial.worker;
  places : places_of l.worker ≡ places_of l.initial.worker;
}

abbrev pub decreases-steps : goal.decreases-steps
decreases-steps g l = ahead (room_of l.worker) (length l.design.nets) (g.B.Board.knows l.board).drawn (task_of l.worker)
