-- What a worker is at, and what its next action makes of it.
use Rattle.std.specs.Prelude.{ℕ, ◌+◌, ◌*◌, ◌/◌, ◌%◌, nat_lt, ◌==◌, suc, ℤ, List, [], ◌∷◌, ◌++◌, length, slice_index}
use Rattle.std.specs.Prelude.{if◌then◌else◌}
use Rattle.xt_model.specs.declared.edge.Edge.TheVariants.{Rise, Fall}
use Rattle.xt_model.specs.declared.net.NetId.{NetId}
use Rattle.xt_model.specs.declared.quad.Pair.{Pair}
use Rattle.xt_model.specs.Quads.{quad_at}
use Rattle.xt_model.specs.Parts.{Parts}
use Rattle.xt_model.specs.Assign.{edge_of, side_of, quads_of}
use Rattle.xt_meaning.specs.Operator.{operator}
use Rattle.xt_meaning.specs.Words.{bound_in}
use Rattle.net_eval.specs.ReadLists.{ids, reads_of}
use Rattle.chaos_core.specs.declared.worker.Stage.{Stage}
use Rattle.chaos_core.specs.declared.worker.Stage.TheVariants.{Idle, Loading, Publishing, Finished}
use Rattle.chaos_core.specs.declared.worker.Moved.{Moved}
use Rattle.chaos_core.specs.declared.worker.Moved.TheVariants.{Drew, Loaded, Published, Done}

-- a worker is idle, is loading a net with the numbers loaded so far, is publishing a net with its windows and the
-- number of its words that are published, or is done
pub data Task : Type 0 where
  idle : Task
  loading : ℕ → List ℕ → Task
  publishing : ℕ → Pair → ℕ → Task
  done : Task

abbrev pub task_at : Stage → List ℕ → Task
task_at Idle numbers = idle
task_at (Loading net) numbers = loading net numbers
task_at (Publishing net pair published) numbers = publishing net pair published
task_at Finished numbers = done

-- what a worker is at, how many numbers it has room for, and for how many nets it has a place
pub record WorkerState : Type 0 where
  pub task : Task
  pub room : ℕ
  pub places : ℕ

abbrev pub task_of : WorkerState → Task
task_of worker = worker.task

abbrev pub room_of : WorkerState → ℕ
room_of worker = worker.room

abbrev pub places_of : WorkerState → ℕ
places_of worker = worker.places

-- the numbers that a worker has loaded of a read list
abbrev pub loaded_of : Task → List ℕ
loaded_of idle = []
loaded_of (loading net numbers) = numbers
loaded_of (publishing net pair published) = []
loaded_of done = []

-- the numbers of the nets in the read list of a net
abbrev pub list_of : List (List NetId) → ℕ → List ℕ
list_of lists net = ids (reads_of lists net)

-- the place of a net in a read list
abbrev pub place_of : List ℕ → ℕ → ℕ
place_of [] net = 0
place_of (r ∷ reads) net = if r == net then 0 else suc (place_of reads net)

-- the word of a read list that is loaded at this place: list by list net, eight words each
abbrev pub word_to_load : List ℕ → ℕ → ℕ
word_to_load reads place = 8 * slice_index reads (place / 8) + place % 8

-- the bound loaded for a word of a read list
abbrev pub loaded_bounds : List ℕ → List ℕ → ℕ → ℤ
loaded_bounds reads numbers word =
    bound_in (slice_index numbers (8 * place_of reads (word / 8) + word % 8))

-- what the operator makes of the loaded bounds at a net
abbrev pub evaluated : Parts → List ℕ → List ℕ → ℕ → Pair
evaluated d reads numbers net = record {
  rise = operator d (quads_of (loaded_bounds reads numbers)) net Rise;
  fall = operator d (quads_of (loaded_bounds reads numbers)) net Fall;
}

-- the bound of a pair of windows in the word of this place among the eight of a net
abbrev pub bound_at : Pair → ℕ → ℤ
bound_at p place = side_of (quad_at p (edge_of (place / 4))) (place % 4)

-- with these numbers loaded a worker loads on, until the read list is whole; then it publishes
abbrev pub with_loaded : Parts → List ℕ → ℕ → List ℕ → Task
with_loaded d reads net numbers =
    if nat_lt (length numbers) (8 * length reads) then loading net numbers
    else publishing net (evaluated d reads numbers net) 0

-- a number below the net count is a place in the order of the nets; at or past it a worker is done
abbrev pub with_drawn : Parts → List (List NetId) → List ℕ → ℕ → Task
with_drawn d lists order number =
    if nat_lt number (length d.nets)
    then with_loaded d (list_of lists (slice_index order number)) (slice_index order number) []
    else done

-- what a task becomes by one action, to which the board answered this number
abbrev pub moved_on : Parts → List (List NetId) → List ℕ → Task → ℕ → Task
moved_on d lists order idle number = with_drawn d lists order number
moved_on d lists order (loading net numbers) number =
    with_loaded d (list_of lists net) net (numbers ++ number ∷ [])
moved_on d lists order (publishing net pair place) number =
    if nat_lt (place + 1) 8 then publishing net pair (place + 1) else idle
moved_on d lists order done number = done

-- what the action was
abbrev pub move_of : Parts → List (List NetId) → Task → ℕ → Moved
move_of d lists idle number = if nat_lt number (length d.nets) then Drew number else Done
move_of d lists (loading net numbers) number = Loaded (word_to_load (list_of lists net) (length numbers))
move_of d lists (publishing net pair place) number = Published (8 * net + place)
move_of d lists done number = Done
