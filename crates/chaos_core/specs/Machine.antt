-- Workers that take turns at one list of words, in any order: a machine of single actions.
use Rattle.std.specs.Prelude.{ℕ, ◌+◌, ◌*◌, ◌%◌, List, [], ◌∷◌, length, map, slice_set}
use Rattle.std.specs.List.{fold, slice_index_or}
use Rattle.xt_model.specs.declared.net.NetId.{NetId}
use Rattle.xt_model.specs.Levels.{IsOrder}
use Rattle.xt_meaning.specs.Words.{number_for, number_at, bounds_in, AreNoFurther, further}
use Rattle.net_eval.specs.ReadLists.{AreReadLists}
use Rattle.chaos_core.specs.declared.setting.Setting.{Setting}
use Rattle.chaos_core.specs.declared.worker.Worker.{Worker}
use Rattle.chaos_core.specs.Boards.{Knowledge}
use Rattle.chaos_core.specs.Tasks.{Task, idle, loading, publishing, done, task_of, list_of}
use Rattle.chaos_core.specs.Tasks.{word_to_load, bound_at, moved_on}
use Rattle.chaos_core.specs.Steps.{Fits}
use Rattle.chaos_core.specs.Memories.{Memory, knowledge_of, AreKept}

-- the number in each word, the number that is drawn next, and what each worker is at
pub record State : Type 0 where
  pub words : List ℕ
  pub next : ℕ
  pub tasks : List Task

abbrev pub task_in : State → ℕ → Task
task_in s worker = slice_index_or s.tasks worker done

-- one action of a worker at a task: it draws, or loads a word, or moves a word by a least or a greatest
abbrev pub act : Setting → List (List NetId) → List ℕ → State → ℕ → Task → State
act a lists order s worker idle = record {
  words = s.words;
  next = s.next + 1;
  tasks = slice_set s.tasks worker (moved_on a.design lists order idle s.next);
}
act a lists order s worker (loading net numbers) = record {
  words = s.words;
  next = s.next;
  tasks = slice_set s.tasks worker (moved_on a.design lists order (loading net numbers)
      (number_at s.words (word_to_load (list_of lists net) (length numbers))));
}
act a lists order s worker (publishing net pair place) = record {
  words = slice_set s.words (8 * net + place) (further a.way ((8 * net + place) % 2)
      (number_at s.words (8 * net + place)) (number_for (bound_at pair place)));
  next = s.next;
  tasks = slice_set s.tasks worker (moved_on a.design lists order (publishing net pair place)
      (number_at s.words (8 * net + place)));
}
act a lists order s worker done = s

-- a pick names a worker, which makes one action
abbrev pub acted : Setting → List (List NetId) → List ℕ → State → ℕ → State
acted a lists order s pick = act a lists order s pick (task_in s pick)

-- a schedule is any list of picks
abbrev pub scheduled : Setting → List (List NetId) → List ℕ → State → List ℕ → State
scheduled a lists order s picks = fold (acted a lists order) s picks

-- the words of a state, as one who alone moves them knows them
abbrev pub known_in : Setting → State → Knowledge
known_in a s = knowledge_of (record { setting = a; words = s.words; next = s.next })

-- the words cross no barrier, are at or past the start and no further than what the operator makes of them; each loaded
-- number is at or before its word now, and each value to publish is no further than what the operator makes of the
-- words now
pub record IsGood (a : Setting) (lists : List (List NetId)) (s : State) : Type 0 where
  pub words : AreKept a s.words
  pub tasks : (worker : ℕ) → Fits (known_in a s) lists (task_in s worker)

-- from a good state every schedule leads to a good state, with words at or past those before
pub record IsReached (a : Setting) (lists : List (List NetId)) (s t : State) : Type 0 where
  pub good : IsGood a lists t
  pub onward : AreNoFurther a.way (bounds_in s.words) (bounds_in t.words)

abbrev pub SchedulesKeep : Type 0
SchedulesKeep = (a : Setting) (lists : List (List NetId)) (order : List ℕ) (s : State) (picks : List ℕ)
    → AreReadLists a.design lists → IsOrder a.design.nets order → IsGood a lists s
    → IsReached a lists s (scheduled a lists order s picks)

-- the state of words in memory and of workers
abbrev pub state_of : Memory → List Worker → State
state_of m workers = record { words = m.words; next = m.next; tasks = map task_of workers }

-- how many workers are not done
abbrev pub open_in : Task → ℕ
open_in idle = 1
open_in (loading net numbers) = 1
open_in (publishing net pair place) = 1
open_in done = 0

abbrev pub count_open : List Task → ℕ
count_open [] = 0
count_open (t ∷ more) = open_in t + count_open more
