use Rattle.std.proofs.Common.{◌≡◌, ℕ, ◌+◌, ◌*◌, List, length}
use Rattle.std.specs.Prelude.{vec_capacity}
use Rattle.chaos_core.specs.Boards.{IsSeen}
use Rattle.chaos_core.specs.Tasks.{list_of, loaded_of, loading, places_of, room_of, task_of, with_loaded}
use Rattle.chaos_core.specs.Steps.{AreLoaded, AreSteps}
use Rattle.chaos_core.proofs.run.load_rest.Given as goal

abbrev pub invariant-loop-place : goal.invariant-loop-place
invariant-loop-place g l = record {
  setting : (g.B.Board.knows l.board).setting ≡ (g.B.Board.knows l.fn.board).setting;
  seen : IsSeen (g.B.Board.knows l.board).setting (g.B.Board.knows l.board).seen;
  loaded : AreLoaded (g.B.Board.knows l.board).setting (g.B.Board.knows l.board).seen (list_of l.fn.lists l.fn.net.0) l.loaded.items;
  steps : (order : List ℕ) → (count : ℕ) × AreSteps l.fn.design l.fn.lists order count (g.B.Board.knows l.fn.board) (loading l.fn.net.0 (loaded_of (task_of l.fn.worker))) (g.B.Board.knows l.board)
      (with_loaded l.fn.design (list_of l.fn.lists l.fn.net.0) l.fn.net.0 l.loaded.items);
  room : vec_capacity l.loaded ≡ room_of l.fn.worker;
  places : length l.worker-inside.places.items ≡ places_of l.fn.worker;
  at : 8 * l.place ≡ length l.loaded.items;
}

abbrev pub invariant-loop-side : goal.invariant-loop-side
invariant-loop-side g l = record {
  setting : (g.B.Board.knows l.board).setting ≡ (g.B.Board.knows l.fn.board).setting;
  seen : IsSeen (g.B.Board.knows l.board).setting (g.B.Board.knows l.board).seen;
  loaded : AreLoaded (g.B.Board.knows l.board).setting (g.B.Board.knows l.board).seen (list_of l.fn.lists l.fn.net.0) l.loaded.items;
  steps : (order : List ℕ) → (count : ℕ) × AreSteps l.fn.design l.fn.lists order count (g.B.Board.knows l.fn.board) (loading l.fn.net.0 (loaded_of (task_of l.fn.worker))) (g.B.Board.knows l.board)
      (with_loaded l.fn.design (list_of l.fn.lists l.fn.net.0) l.fn.net.0 l.loaded.items);
  room : vec_capacity l.loaded ≡ room_of l.fn.worker;
  places : length l.worker-inside.places.items ≡ places_of l.fn.worker;
  at : length l.initial.loaded.items + l.side ≡ length l.loaded.items;
}
