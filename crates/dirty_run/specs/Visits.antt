-- Visits to nets: what they ask of a pass and of a worker, and what they leave.
use Rattle.std.specs.Prelude.{◌≡◌, ℕ, ◌+◌, ◌*◌, ◌%◌, ◌<◌, ◌≤◌, ◌⊎◌, ◌↔◌, nat_lt, Bool, IsTrue, IsFalse, List, [], ◌∷◌}
use Rattle.std.specs.Prelude.{◌++◌, length, take, slice_index, Option, Some, None, if◌then◌else◌}
use Rattle.std.specs.List.{Contains}
use Rattle.xt_model.specs.declared.direction.Direction.{Direction}
use Rattle.xt_model.specs.declared.net.NetId.{NetId}
use Rattle.xt_model.specs.declared.quad.Pair.{Pair}
use Rattle.xt_model.specs.Parts.{Parts}
use Rattle.xt_meaning.specs.Barrier.{IsBoundNoFurther}
use Rattle.xt_meaning.specs.Words.{bound_in, bounds_in, onward, AreNoFurther, further}
use Rattle.table_box.specs.Groups.{AreGroups}
use Rattle.net_eval.specs.ReadLists.{AreReadLists}
use Rattle.chaos_core.specs.Boards.{IsSeen}
use Rattle.chaos_core.specs.Tasks.{list_of, word_to_load, evaluated, bound_at}
use Rattle.chaos_core.specs.Steps.{AreLoaded}
use Rattle.window_words.specs.declared.view.View.{View}
use Rattle.dirty_words.specs.declared.view.Flight.{Flight}
use Rattle.dirty_words.specs.declared.view.DirtyView.{DirtyView}
use Rattle.dirty_words.specs.Views.{readers_of}
use Rattle.dirty_words.specs.Readers.{AreReaders}
use Rattle.dirty_words.specs.Boards.{DirtyId}
use Rattle.dirty_words.specs.Steps.{Published}
use Rattle.dirty_run.specs.declared.worker.Worker.{Worker}
use Rattle.dirty_run.specs.Notes.{AreNotes}

-- a board with the words of a run of this design in this direction, groups of its tables, the read lists with which the
-- board was opened, and their readers
pub record IsRun (board : DirtyId) (d : Parts) (groups : List ℕ) (lists readers : List (List NetId))
    (direction : Direction) : Type 0 where
  pub design : board.run.setting.design ≡ d
  pub grouped : AreGroups d.tables groups
  pub way : board.run.setting.way ≡ direction
  pub own : board.run.lists ≡ lists
  pub whole : AreReadLists d lists
  pub reversed : AreReaders lists readers

-- the first of several numbers, as many as the words of the read list of a net
abbrev pub first_words : List (List NetId) → ℕ → List ℕ → List ℕ
first_words lists net numbers = take (8 * length (list_of lists net)) numbers

-- room for the words of each read list, a place for each net, and notes
pub record HasRoom (d : Parts) (lists : List (List NetId)) (worker : Worker) : Type 0 where
  pub room : (net : ℕ) → 8 * length (list_of lists net) ≤ length worker.loaded.items
  pub notes : AreNotes d lists worker.notes
  pub places : length lists ≤ length worker.places.items

-- some word moved
pub record HasMoved (before after : List ℕ) : Type 0 where
  pub word : ℕ
  pub moved : bounds_in before word ≡ bounds_in after word → ⊥

-- ---- views during a visit
abbrev pub fresh_flight : ℕ → Flight
fresh_flight net = record { net = net; numbers = []; published = 0 }

abbrev pub with_base : DirtyView → List ℕ → ℕ → View
with_base u seen made = record (u.base) { seen = seen; made = made }

-- u, with these numbers loaded for the net in flight
abbrev pub with_numbers : DirtyView → ℕ → List ℕ → List ℕ → DirtyView
with_numbers u net numbers seen = record u {
  base = with_base u seen u.base.made;
  flight = Some (record { net = net; numbers = numbers; published = 0 });
}

-- a flight of which this many words are published
abbrev pub flight_at : Flight → ℕ → Option Flight
flight_at f place = if nat_lt place 8 then Some (record f { published = place }) else None

abbrev pub with_words : DirtyView → Flight → ℕ → List ℕ → ℕ → List ℕ → DirtyView
with_words u f place seen made owed = record u { base = with_base u seen made; flight = flight_at f place; owed = owed }

-- ---- loading
-- from u, these numbers were loaded from the first words of the read list of a net
pub record AreLoadedFrom (u : DirtyView) (net : ℕ) (seen numbers : List ℕ) : Type 0 where
  pub sound : IsSeen u.base.setting seen
  pub onward : AreNoFurther u.base.setting.way (bounds_in u.base.seen) (bounds_in seen)
  pub loaded : AreLoaded u.base.setting seen (list_of u.lists net) numbers
  pub past : (i : ℕ) → i < length numbers
      → IsBoundNoFurther u.base.setting.way (word_to_load (list_of u.lists net) i % 2)
      (bounds_in u.base.seen (word_to_load (list_of u.lists net) i)) (bound_in (slice_index numbers i))

-- from u to w, these numbers were loaded for the net in flight
pub record IsLoading (u : DirtyView) (net : ℕ) (numbers : List ℕ) (w : DirtyView) : Type 0 where
  pub seen : List ℕ
  pub after : w ≡ with_numbers u net numbers seen
  pub from : AreLoadedFrom u net seen numbers

pub record HasLoaded (u : DirtyView) (net : ℕ) (numbers : List ℕ) (w : DirtyView) : Type 0 where
  pub loading : IsLoading u net numbers w
  pub whole : length numbers ≡ 8 * length (list_of u.lists net)

-- from u to w, some numbers were loaded for the net in flight, and this is what the operator makes of it of them
pub record HasEvaluated (u : DirtyView) (d : Parts) (lists : List (List NetId)) (net : ℕ) (pair : Pair) (w : DirtyView)
    : Type 0 where
  pub numbers : List ℕ
  pub loaded : HasLoaded u net numbers w
  pub value : pair ≡ evaluated d (list_of lists net) numbers net

-- ---- publishing
-- a flight with its whole read list loaded, of which nothing is published, and what the operator makes of it
pub record IsReady (u : DirtyView) (net : ℕ) (pair : Pair) (f : Flight) : Type 0 where
  pub flight : u.flight ≡ Some f
  pub own : f.net ≡ net
  pub none : f.published ≡ 0
  pub whole : length f.numbers ≡ 8 * length (list_of u.lists net)
  pub value : pair ≡ evaluated u.base.setting.design (list_of u.lists net) f.numbers net

-- a word moved, and the readers of the net are owed, and no others
pub record OwesReaders (u : DirtyView) (net : ℕ) (seen owed : List ℕ) : Type 0 where
  pub moved : HasMoved u.base.seen seen
  pub debts : (m : ℕ) → Contains owed m ↔ Contains (readers_of u.lists net) m

-- from u to w, this many words of the net in flight were published
pub record IsPublishing (u : DirtyView) (net : ℕ) (pair : Pair) (f : Flight) (place : ℕ) (moved : Bool) (w : DirtyView)
    : Type 0 where
  pub seen : List ℕ
  pub made : ℕ
  pub owed : List ℕ
  pub after : w ≡ with_words u f place seen made owed
  pub sound : IsSeen u.base.setting seen
  pub onward : AreNoFurther u.base.setting.way (bounds_in u.base.seen) (bounds_in seen)
  pub past : (i : ℕ) → i < place
      → IsBoundNoFurther u.base.setting.way (i % 2) (bound_at pair i) (bounds_in seen (8 * net + i))
  pub count : made ≡ u.base.made + place
  pub debts : IsTrue moved → OwesReaders u net seen owed
  pub none : IsFalse moved → owed ≡ u.owed

-- from u to w, the next word of a flight was published, and whether it moved
pub record HasPublished (u : DirtyView) (f : Flight) (word value : ℕ) (moved : Bool) (w : DirtyView) : Type 0 where
  pub number : ℕ
  pub published : Published u f word number (further u.base.setting.way (word % 2) number value) w
  pub moves : IsTrue moved → further u.base.setting.way (word % 2) number value ≡ number → ⊥
  pub stays : IsFalse moved → further u.base.setting.way (word % 2) number value ≡ number

-- ---- paying
-- from u to w, all that was owed is marked
pub record HasPaid (u w : DirtyView) : Type 0 where
  pub noted : List ℕ
  pub clear : List ℕ
  pub after : w ≡ record u { owed = []; noted = noted; clear = clear }

-- ---- a visit
-- what is seen at a net is at or past what the operator makes of what was seen before
abbrev pub HasPassed : DirtyView → List ℕ → ℕ → Type 0
HasPassed v seen net = (i : ℕ) → i < 8 → IsBoundNoFurther v.base.setting.way (i % 2)
    (onward v.base.setting.design (bounds_in v.base.seen) (8 * net + i)) (bounds_in seen (8 * net + i))

-- from v to w, a net was visited: it is taken; where it was found marked, it is past; nothing is noted more unless a
-- word moved
pub record HasVisited (v : DirtyView) (net : ℕ) (w : DirtyView) : Type 0 where
  pub seen : List ℕ
  pub made : ℕ
  pub clear : List ℕ
  pub noted : List ℕ
  pub missed : List ℕ
  pub after : w ≡ record v {
    base = with_base v seen made;
    clear = clear;
    taken = v.taken ++ net ∷ [];
    noted = noted;
    missed = missed;
  }
  pub sound : IsSeen v.base.setting seen
  pub onward : AreNoFurther v.base.setting.way (bounds_in v.base.seen) (bounds_in seen)
  pub passed : Contains v.found net → HasPassed v seen net
  pub rose : v.base.made ≤ made
  pub most : made ≤ v.base.made + 8
  pub why : (noted ≡ v.noted) ⊎ HasMoved v.base.seen seen
