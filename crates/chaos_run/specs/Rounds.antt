-- Rounds of workers in threads of their own, on one board.
use Rattle.std.specs.Prelude.{◌≡◌, ℕ, ◌+◌, ◌≤◌, List, [], length, vec_capacity, Option, Some, option_map}
use Rattle.std.specs.List.{All}
use Rattle.xt_model.specs.declared.direction.Direction.{Direction}
use Rattle.xt_model.specs.declared.net.NetId.{NetId}
use Rattle.xt_model.specs.declared.quad.Pair.{Pair}
use Rattle.xt_model.specs.Parts.{Parts}
use Rattle.xt_model.specs.Levels.{IsOrder}
use Rattle.table_box.specs.Groups.{AreGroups}
use Rattle.net_eval.specs.ReadLists.{AreReadLists}
use Rattle.chaos_core.specs.declared.setting.Setting.{Setting}
use Rattle.chaos_core.specs.Runs.{Ran}
use Rattle.chaos_core.specs.Rounds.{HasRoom, Settles}
use Rattle.window_words.specs.declared.seated.Seated.{Seated}
use Rattle.window_words.specs.declared.view.View.{View}
use Rattle.window_words.specs.Views.{sent_out}
pub use Rattle.window_words.specs.Steps.{IsRested}
use Rattle.window_words.specs.Boards.{BoardId, Holding, IsOf, knowledge_of}
use Rattle.chaos_run.specs.declared.workers.SeatedWorker.{SeatedWorker}
use Rattle.chaos_run.specs.declared.workers.RunRoom.{RunRoom}
use Rattle.chaos_run.specs.declared.workers.Workers.{Workers}

-- a board whose words are of this design and run this way, and the design's read lists
pub record IsRun (board : BoardId) (d : Parts) (lists : List (List NetId)) (direction : Direction) : Type 0 where
  pub design : board.setting.design ≡ d
  pub way : board.setting.way ≡ direction
  pub whole : AreReadLists d lists

-- there is room for the passes of all workers, and each idle one has room for the words of the longest read list and
-- a place for each net
pub record AreRoomy (lists : List (List NetId)) (workers : Workers) : Type 0 where
  pub all : length workers.idle.items + length workers.seated.items ≤ vec_capacity workers.idle
  pub passes : length workers.idle.items + length workers.seated.items ≤ vec_capacity workers.seated
  pub rooms : All (HasRoom lists) workers.idle.items

-- between two rounds no worker has a pass
pub record AreIdle (lists : List (List NetId)) (workers : Workers) : Type 0 where
  pub roomy : AreRoomy lists workers
  pub none : workers.seated.items ≡ []

-- v with so many more passes out
abbrev pub with_out : View → ℕ → View
with_out v count = record v { out = v.out + count; split = v.split + count }

-- a pass that the first can send out
abbrev pub sent_of : Holding → Holding
sent_of first = record { table = first.table; view = sent_out first.view }

-- the pass of a worker, where it is there
abbrev pub pass_of : SeatedWorker → Option Holding
pass_of w = option_map (λ (s : Seated). s.pass) w.seated

-- a worker with a pass that was just split off
pub record IsSent (lists : List (List NetId)) (first : Holding) (w : SeatedWorker) : Type 0 where
  pub pass : pass_of w ≡ Some (sent_of first)
  pub room : HasRoom lists w.worker

-- a worker with a pass of a board, by which nothing was drawn
pub record IsReady (board : BoardId) (lists : List (List NetId)) (w : SeatedWorker) : Type 0 where
  pub pass : Holding
  pub there : pass_of w ≡ Some pass
  pub own : IsOf board pass
  pub fresh : pass.view.drawn ≡ []
  pub room : HasRoom lists w.worker

-- from v to w a worker drew and worked by its pass until it was done
pub record HasRun (board : BoardId) (d : Parts) (lists : List (List NetId)) (v w : SeatedWorker) : Type 0 where
  pub before : Holding
  pub after : Holding
  pub had : pass_of v ≡ Some before
  pub there : pass_of w ≡ Some after
  pub own : IsOf board after
  pub ran : (order : List ℕ) → IsOrder d.nets order → Ran order (knowledge_of before) (knowledge_of after)
  pub room : HasRoom lists w.worker

-- a worker with a pass that was sent out by the first, and by which it ran
pub record IsBack (board : BoardId) (d : Parts) (lists : List (List NetId)) (first : Holding) (w : SeatedWorker)
    : Type 0 where
  pub pass : Holding
  pub there : pass_of w ≡ Some pass
  pub own : IsOf board pass
  pub ran : (order : List ℕ) → IsOrder d.nets order → Ran order (knowledge_of (sent_of first)) (knowledge_of pass)
  pub room : HasRoom lists w.worker

-- one worker alone settles from the start in this many rounds of the machine, and in no fewer
abbrev pub SettlesAlone : Setting → List (List NetId) → List Pair → ℕ → Type 0
SettlesAlone a lists windows rounds =
    (order : List ℕ) → IsOrder a.design.nets order → Settles a lists order 1 0 windows rounds

-- how many workers a room is for
abbrev pub workers_in : RunRoom → ℕ
workers_in room = length room.workers.idle.items

-- a room for a run on a design with these read lists: all its workers are idle, and it has windows and marks for each
-- net, each twice, and groups of the tables
pub record IsRoomFor (d : Parts) (lists : List (List NetId)) (room : RunRoom) : Type 0 where
  pub idle : AreIdle lists room.workers
  pub before : length room.before ≡ length d.nets
  pub count : length room.windows ≡ length d.nets
  pub unmoved : length room.unmoved.items ≡ length d.nets
  pub marks : length room.marks.items ≡ length d.nets
  pub groups : AreGroups d.tables room.groups.items
