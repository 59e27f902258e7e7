-- How workers take their turns by an engine, how many rounds a run may take, and what it ends in.
use Rattle.std.specs.Prelude.{◌≡◌, ◌↔◌, ℕ, ◌+◌, ◌≤◌, List}
use Rattle.xt_model.specs.declared.direction.Direction.{Direction}
use Rattle.xt_model.specs.declared.direction.Direction.TheVariants.{Widen}
use Rattle.xt_model.specs.declared.net.NetId.{NetId}
use Rattle.xt_model.specs.declared.quad.Pair.{Pair}
use Rattle.xt_model.specs.Build.{IsRoundBound}
use Rattle.xt_model.specs.Parts.{Parts}
use Rattle.xt_meaning.specs.Barrier.{IsFittingStart, IsWithinEnvelope}
use Rattle.xt_meaning.specs.Fixpoint.{IsFixpoint}
use Rattle.xt_meaning.specs.Laws.{IsExtremeFixpoint}
use Rattle.net_eval.specs.ReadLists.{AreReadLists}
use Rattle.chaos_core.specs.declared.settle.Settled.{Settled}
use Rattle.chaos_run.specs.declared.both.Both.{Both}
use Rattle.chaos_run.specs.declared.workers.RunRoom.{RunRoom}
use Rattle.chaos_run.specs.Rounds.{IsRoomFor, workers_in}
use Rattle.command_line.specs.declared.values.Engine.{Engine}
use Rattle.command_line.specs.declared.values.Engine.TheVariants.{Rounds, Marks}
use Rattle.xtalk_top.specs.declared.runs.Turns.{Turns}
use Rattle.xtalk_top.specs.declared.solution.Beginning.{Beginning}
use Rattle.xtalk_top.specs.declared.runs.Turns.TheVariants.{InThreads, Picked, ByMarks}

-- the turns of workers in threads, by an engine
abbrev pub turns_by : Engine → Turns
turns_by Rounds = InThreads
turns_by Marks = ByMarks

-- the most rounds of a run on a design whose bound on rounds is this: by marks one more, since marks may be left where
-- the words are closed
abbrev pub most_rounds : Turns → ℕ → ℕ
most_rounds InThreads bound = bound
most_rounds (Picked number) bound = bound
most_rounds ByMarks bound = bound + 1

-- what a run from these windows has ended in: the least fixpoint in widening and the greatest in narrowing, after no
-- more rounds than its turns allow; by rounds in threads after none just where it began at a fixpoint
pub record IsEndOf (way : Direction) (d : Parts) (turns : Turns) (start : List Pair) (settled : Settled) : Type 0 where
  pub extreme : IsExtremeFixpoint way d settled.windows
  pub closed : turns ≡ InThreads → (settled.rounds ≡ 0) ↔ IsFixpoint d start
  pub few : (bound : ℕ) → IsRoundBound d.nets bound → settled.rounds ≤ most_rounds turns bound

-- what each of two runs has ended in
abbrev pub low_end : Both → Settled
low_end found = record { windows = found.low; rounds = found.low_rounds }

abbrev pub high_end : Both → Settled
high_end found = record { windows = found.high; rounds = found.high_rounds }

-- a room for a run of this many workers on a design with these read lists
pub record IsRoomOf (d : Parts) (lists : List (List NetId)) (workers : ℕ) (room : RunRoom) : Type 0 where
  pub fits : IsRoomFor d lists room
  pub count : workers_in room ≡ workers

-- what both runs on a design, each of this many workers, begin with beside its envelope; where the design has an
-- envelope that keeps the limits, a run can start at the quiet windows that widens
pub record IsBeginning (d : Parts) (workers : ℕ) (made : Beginning) : Type 0 where
  pub lists : AreReadLists d made.lists
  pub starts : (v : List Pair) → IsWithinEnvelope d v → IsFittingStart Widen d made.bottom
  pub low : IsRoomOf d made.lists workers made.low
  pub high : IsRoomOf d made.lists workers made.high
