-- Rounds of workers in threads of their own, on one board with marks.
use Rattle.std.specs.Prelude.{◌≡◌, ℕ, zero, suc, ◌+◌, ◌*◌, ◌≤◌, List, [], length, vec_capacity}
use Rattle.std.specs.List.{All}
use Rattle.xt_model.specs.declared.net.NetId.{NetId}
use Rattle.xt_model.specs.Parts.{Parts}
use Rattle.xt_model.specs.Levels.{IsOrder}
use Rattle.table_box.specs.Groups.{AreGroups}
use Rattle.chaos_core.specs.declared.setting.Setting.{Setting}
use Rattle.chaos_core.specs.Rounds.{AreTurns, HasCarried}
use Rattle.dirty_words.specs.Views.{pass_sent}
use Rattle.dirty_words.specs.Boards.{DirtyId, DirtyHolding, IsFree, IsOf, IsSplitOff}
use Rattle.dirty_run.specs.declared.worker.DirtyRoom.{DirtyRoom}
use Rattle.dirty_run.specs.declared.worker.SeatedWorker.{SeatedWorker}
use Rattle.dirty_run.specs.declared.worker.Workers.{Workers}
use Rattle.dirty_run.specs.Notes.{AreNotes}
use Rattle.dirty_run.specs.Visits.{HasRoom}
use Rattle.dirty_run.specs.Turns.{HasRun}

-- there is room for the passes of all workers, each idle one has room for the words of each read list, and the notes of
-- the round before are of these lists
pub record AreRoomy (d : Parts) (lists : List (List NetId)) (workers : Workers) : Type 0 where
  pub all : length workers.idle.items + length workers.seated.items ≤ vec_capacity workers.idle
  pub passes : length workers.idle.items + length workers.seated.items ≤ vec_capacity workers.seated
  pub rooms : All (HasRoom d lists) workers.idle.items
  pub before : All (AreNotes d lists) workers.before.notes.items
  pub count : length workers.idle.items + length workers.seated.items ≤ length workers.before.notes.items

-- between two rounds no worker has a pass
pub record AreIdle (d : Parts) (lists : List (List NetId)) (workers : Workers) : Type 0 where
  pub roomy : AreRoomy d lists workers
  pub none : workers.seated.items ≡ []

-- a worker with a pass that was just split off
pub record IsSent (d : Parts) (lists : List (List NetId)) (first : DirtyHolding) (w : SeatedWorker) : Type 0 where
  pub table : w.pass.table ≡ first.table
  pub view : w.pass.view ≡ pass_sent first.view
  pub room : HasRoom d lists w.worker

-- a worker with a pass of a board, by which nothing was drawn or taken
pub record IsReady (board : DirtyId) (d : Parts) (lists : List (List NetId)) (w : SeatedWorker) : Type 0 where
  pub own : IsOf board w.pass
  pub other : IsSplitOff w.pass.view
  pub fresh : w.pass.view.base.drawn ≡ []
  pub none : w.pass.view.taken ≡ []
  pub free : IsFree w.pass.view
  pub room : HasRoom d lists w.worker

-- from v to w a worker drew and visited until it was done
pub record HasWorked (board : DirtyId) (d : Parts) (lists : List (List NetId)) (v w : SeatedWorker) : Type 0 where
  pub own : IsOf board w.pass
  pub ran : (order : List ℕ) → IsOrder d.nets order → HasRun order v.pass.view w.pass.view
  pub room : HasRoom d lists w.worker

-- a worker with a pass that was sent out by the first, and by which it ran
pub record IsBack (board : DirtyId) (d : Parts) (lists : List (List NetId)) (first : DirtyHolding) (w : SeatedWorker)
    : Type 0 where
  pub own : IsOf board w.pass
  pub ran : (order : List ℕ) → IsOrder d.nets order → HasRun order (pass_sent first.view) w.pass.view
  pub room : HasRoom d lists w.worker

-- from words p to words q in `rounds` rounds by marks, one after another: each carried the words at least as far as the
-- operator does, and each but the last began at words that were not closed
abbrev pub AreMarkedTurns : Setting → ℕ → List ℕ → List ℕ → Type 0
AreMarkedTurns a zero p q = q ≡ p
AreMarkedTurns a (suc rounds) p q = (m : List ℕ) × AreTurns a rounds p m × HasCarried a m q

-- how many workers a room is for
abbrev pub workers_in : DirtyRoom → ℕ
workers_in room = length room.workers.idle.items

-- a room for a run on a design with these read lists: all its workers are idle, it knows groups of the design's tables,
-- and it has windows and words for each net
pub record IsRoomFor (d : Parts) (lists : List (List NetId)) (room : DirtyRoom) : Type 0 where
  pub idle : AreIdle d lists room.workers
  pub groups : AreGroups d.tables room.groups.items
  pub count : length room.windows ≡ length d.nets
  pub words : 8 * length d.nets ≤ vec_capacity room.words
