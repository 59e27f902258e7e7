-- Workers that fit a board, and one step of a worker on it.
use Rattle.std.specs.Prelude.{◌≡◌, ℕ, zero, suc, ◌+◌, ◌*◌, ◌%◌, ◌<◌, ◌≤◌, List, length, slice_index}
use Rattle.xt_model.specs.declared.net.NetId.{NetId}
use Rattle.xt_model.specs.declared.quad.Pair.{Pair}
use Rattle.xt_model.specs.Quads.{IsPairInRange}
use Rattle.xt_model.specs.Parts.{Parts}
use Rattle.xt_meaning.specs.Barrier.{IsBoundNoFurther}
use Rattle.xt_meaning.specs.Words.{bound_in, top_number, number_for, bounds_in, onward, further}
use Rattle.chaos_core.specs.declared.setting.Setting.{Setting}
use Rattle.chaos_core.specs.declared.worker.Worker.{Worker}
use Rattle.chaos_core.specs.declared.worker.Moved.{Moved}
use Rattle.chaos_core.specs.Boards.{nets_of, started, Knowledge, IsSeen, Loads, Publishes, Draws}
use Rattle.chaos_core.specs.Tasks.{Task, idle, loading, publishing, done, task_of, list_of, word_to_load, bound_at}
use Rattle.chaos_core.specs.Tasks.{moved_on, move_of, places_of, room_of}

-- a number loaded from a word: at or past the start, and at or before what is seen there
pub record IsLoadedAt (a : Setting) (seen : List ℕ) (word number : ℕ) : Type 0 where
  pub started : IsBoundNoFurther a.way (word % 2) (started a word) (bound_in number)
  pub behind : IsBoundNoFurther a.way (word % 2) (bound_in number) (bounds_in seen word)
  pub range : number ≤ top_number

-- these numbers were loaded from the first words of a read list
pub record AreLoaded (a : Setting) (seen reads numbers : List ℕ) : Type 0 where
  pub count : length numbers ≤ 8 * length reads
  pub each : (i : ℕ) → i < length numbers → IsLoadedAt a seen (word_to_load reads i) (slice_index numbers i)

-- a worker that has words to load fits what is known of a board
pub record FitsLoading (k : Knowledge) (lists : List (List NetId)) (net : ℕ) (numbers : List ℕ) : Type 0 where
  pub seen : IsSeen k.setting k.seen
  pub there : net < nets_of k.setting
  pub more : length numbers < 8 * length (list_of lists net)
  pub loaded : AreLoaded k.setting k.seen (list_of lists net) numbers

-- a worker that has words to publish: none is further than what the operator makes of what is seen
pub record FitsPublishing (k : Knowledge) (net : ℕ) (pair : Pair) (place : ℕ) : Type 0 where
  pub seen : IsSeen k.setting k.seen
  pub there : net < nets_of k.setting
  pub more : place < 8
  pub range : IsPairInRange pair
  pub fits : (i : ℕ) → i < 8 → IsBoundNoFurther k.setting.way (i % 2) (bound_at pair i)
      (onward k.setting.design (bounds_in k.seen) (8 * net + i))

abbrev pub Fits : Knowledge → List (List NetId) → Task → Type 0
Fits k lists idle = Unit {0}
Fits k lists (loading net numbers) = FitsLoading k lists net numbers
Fits k lists (publishing net pair place) = FitsPublishing k net pair place
Fits k lists done = Unit {0}

-- a worker with room for each read list and a place for each net, at a task that fits
pub record IsFitting (k : Knowledge) (lists : List (List NetId)) (worker : Worker) : Type 0 where
  pub room : (net : ℕ) → 8 * length (list_of lists net) ≤ room_of worker
  pub places : length lists ≤ places_of worker
  pub task : Fits k lists (task_of worker)

-- what the next action at a task does on a board, from k to l, with this answer
abbrev pub Acts : List (List NetId) → Task → Knowledge → ℕ → Knowledge → Type 0
Acts lists idle k number l = Draws k number l
Acts lists (loading net numbers) k number l = Loads k (word_to_load (list_of lists net) (length numbers)) number l
Acts lists (publishing net pair place) k number l =
    Publishes k (8 * net + place) number
    (further k.setting.way ((8 * net + place) % 2) number (number_for (bound_at pair place))) l
Acts lists done k number l = l ≡ k

-- one step of a worker: one action on the board, from k to l, and the task, from t to u, by its answer
pub record Steps (d : Parts) (lists : List (List NetId)) (order : List ℕ)
    (k : Knowledge) (t : Task) (moved : Moved) (l : Knowledge) (u : Task) : Type 0 where
  pub answer : ℕ
  pub acts : Acts lists t k answer l
  pub next : u ≡ moved_on d lists order t answer
  pub move : moved ≡ move_of d lists t answer

-- so many steps of a worker, one after another, each from a task that fits
abbrev pub AreSteps : Parts → List (List NetId) → List ℕ → ℕ → Knowledge → Task → Knowledge → Task → Type 0
AreSteps d lists order zero k t l u = (l ≡ k) × (u ≡ t)
AreSteps d lists order (suc n) k t l u =
    (m : Knowledge) × (v : Task) × (moved : Moved) × AreSteps d lists order n k t m v × Fits m lists v
    × Steps d lists order m v moved l u
