-- Rounds of workers that take turns at words in memory, as a source of numbers picks them.
use Rattle.std.specs.Prelude.{◌≡◌, ℕ, ◌+◌, ◌*◌, ◌%◌, ◌<◌, ◌≤◌, zero, suc, List, length, replicate}
use Rattle.std.specs.List.{All, slice_index_or}
use Rattle.xt_model.specs.declared.net.NetId.{NetId}
use Rattle.xt_model.specs.declared.quad.Pair.{Pair}
use Rattle.xt_model.specs.Parts.{Parts}
use Rattle.xt_model.specs.Levels.{IsOrder}
use Rattle.xt_meaning.specs.Words.{bounds_in, numbers_of, onward, AreNoFurther}
use Rattle.net_eval.specs.ReadLists.{AreReadLists}
use Rattle.drawn_numbers.specs.Draws.{next, answer}
use Rattle.chaos_core.specs.declared.setting.Setting.{Setting}
use Rattle.chaos_core.specs.declared.worker.Worker.{Worker}
use Rattle.chaos_core.specs.Tasks.{Task, idle, done, list_of, places_of, room_of}
use Rattle.chaos_core.specs.Runs.{IsDone}
use Rattle.chaos_core.specs.Memories.{Memory, AreKept}
use Rattle.chaos_core.specs.Machine.{State, acted, state_of}

abbrev pub IsOpen : Task → Type 0
IsOpen t = IsDone t → ⊥

-- the worker that a number picks: the one of that number, or where it is done, the next one upwards that is not, from
-- the last on to the first
pub record IsPicked (tasks : List Task) (number pick : ℕ) : Type 0 where
  pub ahead : ℕ
  pub place : pick ≡ (number + ahead) % length tasks
  pub inside : pick < length tasks
  pub open_there : IsOpen (slice_index_or tasks pick done)
  pub passed : (i : ℕ) → i < ahead → IsDone (slice_index_or tasks ((number + i) % length tasks) done)

-- some worker is not done
abbrev pub HasOpen : List Task → Type 0
HasOpen tasks = (worker : ℕ) × IsOpen (slice_index_or tasks worker done)

-- where a source of numbers and a machine stand
pub record Play : Type 0 where
  pub source : ℕ
  pub state : State

abbrev pub play_at : ℕ → Memory → List Worker → Play
play_at source m workers = record { source = source; state = state_of m workers }

-- one pick: a number below the count of the workers is drawn, and the worker that it picks makes one action
pub record IsPick (a : Setting) (lists : List (List NetId)) (order : List ℕ) (p q : Play) : Type 0 where
  pub pick : ℕ
  pub picked : IsPicked p.state.tasks (answer (next p.source) (length p.state.tasks)) pick
  pub source : q.source ≡ next p.source
  pub state : q.state ≡ acted a lists order p.state pick

-- so many picks, one after another
abbrev pub ArePicks : Setting → List (List NetId) → List ℕ → ℕ → Play → Play → Type 0
ArePicks a lists order zero p q = q ≡ p
ArePicks a lists order (suc n) p q = (m : Play) × ArePicks a lists order n p m × IsPick a lists order m q

-- the state in which a round of so many workers begins
abbrev pub begun : ℕ → List ℕ → State
begun workers words = record { words = words; next = 0; tasks = replicate workers idle }

-- where a source of numbers and the words stand between two rounds
pub record Pause : Type 0 where
  pub source : ℕ
  pub words : List ℕ

abbrev pub pause_at : ℕ → Memory → Pause
pause_at source m = record { source = source; words = m.words }

-- one round: picks from idle workers and nothing drawn until all workers are done
pub record IsRound (a : Setting) (lists : List (List NetId)) (order : List ℕ) (workers : ℕ) (p q : Pause) : Type 0 where
  pub count : ℕ
  pub last : State
  pub picks : ArePicks a lists order count
      (record { source = p.source; state = begun workers p.words })
      (record { source = q.source; state = last })
  pub all_done : All IsDone last.tasks
  pub words : q.words ≡ last.words

-- the operator makes of words the words themselves
pub record AreClosed (d : Parts) (words : List ℕ) : Type 0 where
  pub each : (word : ℕ) → onward d (bounds_in words) word ≡ bounds_in words word

-- so many rounds, one after another, each from words that are not closed
abbrev pub AreRounds : Setting → List (List NetId) → List ℕ → ℕ → ℕ → Pause → Pause → Type 0
AreRounds a lists order workers zero p q = q ≡ p
AreRounds a lists order workers (suc n) p q =
    (m : Pause) × AreRounds a lists order workers n p m × (AreClosed a.design m.words → ⊥)
    × IsRound a lists order workers m q

-- so many rounds from the start on, with a source that starts at this number, until the words are closed: they are
-- those of these windows, and closed after no fewer rounds
pub record Settles (a : Setting) (lists : List (List NetId)) (order : List ℕ) (workers number : ℕ) (windows : List Pair)
    (rounds : ℕ) : Type 0 where
  pub source : ℕ
  pub path : AreRounds a lists order workers rounds
      (record { source = number; words = numbers_of a.start })
      (record { source = source; words = numbers_of windows })
  pub closed : AreClosed a.design (numbers_of windows)

-- words at or past others, and at or past what the operator makes of those, that are still no further than what it
-- makes of themselves
pub record HasCarried (a : Setting) (before after : List ℕ) : Type 0 where
  pub kept : AreKept a after
  pub past : AreNoFurther a.way (onward a.design (bounds_in before)) (bounds_in after)
  pub onward : AreNoFurther a.way (bounds_in before) (bounds_in after)

-- every round, of any number of workers and any picks, carries the words at least as far as the operator does
abbrev pub RoundsCarry : Type 0
RoundsCarry = (a : Setting) (lists : List (List NetId)) (order : List ℕ) (workers : ℕ) (p q : Pause) → 0 < workers
    → AreReadLists a.design lists → IsOrder a.design.nets order → AreKept a p.words
    → IsRound a lists order workers p q → HasCarried a p.words q.words

-- a worker has room for each read list, and a place for each net
pub record HasRoom (lists : List (List NetId)) (worker : Worker) : Type 0 where
  pub room : (net : ℕ) → 8 * length (list_of lists net) ≤ room_of worker
  pub places : length lists ≤ places_of worker

-- from words p to words q in `rounds` rounds, one after another: each began at words that were not closed, and carried
-- them at least as far as the operator does
abbrev pub AreTurns : Setting → ℕ → List ℕ → List ℕ → Type 0
AreTurns a zero p q = q ≡ p
AreTurns a (suc rounds) p q =
    (m : List ℕ) × AreTurns a rounds p m × (AreClosed a.design m → ⊥) × HasCarried a m q
