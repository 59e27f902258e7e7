-- What each call asks of a pass, and what each kind of step tells it.
use Rattle.std.specs.Prelude.{◌≡◌, ℕ, ◌+◌, ◌-◌, ◌*◌, ◌<◌, ◌⊎◌, Bool, min, max, length, Some}
use Rattle.std.specs.Prelude.{if◌then◌else◌}
use Rattle.std.specs.List.{All, Contains}
use Rattle.atomic_table.specs.Table.{Me, Step}
use Rattle.xt_meaning.specs.Words.{bound_in, bounds_in, onward, AreNoFurther}
use Rattle.chaos_core.specs.Boards.{nets_of, IsSeen}
use Rattle.chaos_core.specs.Tasks.{list_of, word_to_load, evaluated, bound_at}
use Rattle.chaos_core.specs.Rounds.{AreClosed}
use Rattle.window_words.specs.Views.{times}
use Rattle.window_words.specs.Rule.{once_below}
use Rattle.window_words.specs.Steps.{IsFound, IsWhole}
use Rattle.dirty_words.specs.declared.view.Flight.{Flight}
use Rattle.dirty_words.specs.declared.view.DirtyView.{DirtyView}
use Rattle.dirty_words.specs.Views.{readers_of, with_taken, with_missed, with_loaded, with_published, with_noted}
use Rattle.dirty_words.specs.Views.{with_found, with_clear, with_drawn, with_anew}
use Rattle.dirty_words.specs.Rule.{IsPast, HasDrawn}
use Rattle.dirty_words.specs.Boards.{IsAlone, IsFree}

-- the number of a mark that was found
abbrev pub mark_of : Bool → ℕ
mark_of marked = if marked then 1 else 0

-- ---- taking a mark
-- a net whose mark a pass may take: it is free, drew the number of the net's place, and did not take the net before
pub record CanTake (v : DirtyView) (net : ℕ) : Type 0 where
  pub there : net < nets_of v.base.setting
  pub free : IsFree v
  pub drew : HasDrawn v net
  pub fresh : Contains v.taken net → ⊥

-- from v to w: the mark of a net is found and taken
pub record Took (v : DirtyView) (net mark : ℕ) (w : DirtyView) : Type 0 where
  pub two : (mark ≡ 0) ⊎ (mark ≡ 1)
  pub taken : mark ≡ 1 → w ≡ with_taken v net
  pub missed : mark ≡ 0 → w ≡ with_missed v net
  pub found : Contains v.found net → mark ≡ 1
  pub clear : IsAlone v → Contains v.clear net → mark ≡ 0

-- ---- the words of the net in flight
-- the word that is loaded next
pub record IsNextToLoad (v : DirtyView) (word : ℕ) (f : Flight) : Type 0 where
  pub flight : v.flight ≡ Some f
  pub more : length f.numbers < 8 * length (list_of v.lists f.net)
  pub place : word ≡ word_to_load (list_of v.lists f.net) (length f.numbers)

-- from v to w: a number is found in a word, and is then loaded and seen there
pub record Loaded (v : DirtyView) (f : Flight) (word number : ℕ) (w : DirtyView) : Type 0 where
  pub found : IsFound v.base word number
  pub whole : IsAlone v → IsWhole v.base word number
  pub after : w ≡ with_loaded v f word number
  pub seen : IsSeen w.base.setting w.base.seen

-- from v to w, a number is found in a word by the first pass while none is out: just what was seen
pub record Saw (v : DirtyView) (word number : ℕ) (w : DirtyView) : Type 0 where
  pub found : IsFound v.base word number
  pub whole : IsWhole v.base word number
  pub same : w ≡ v

-- the word that is published next, and its value: what the operator makes there of what was loaded
pub record IsNextToPublish (v : DirtyView) (word value : ℕ) (f : Flight) : Type 0 where
  pub flight : v.flight ≡ Some f
  pub whole : length f.numbers ≡ 8 * length (list_of v.lists f.net)
  pub place : word ≡ 8 * f.net + f.published
  pub number : bound_in value
      ≡ bound_at (evaluated v.base.setting.design (list_of v.lists f.net) f.numbers f.net) f.published

-- from v to w: a number is found in a word and another is left there; where it moved, all readers of the net are owed,
-- which are nets
pub record Published (v : DirtyView) (f : Flight) (word number left : ℕ) (w : DirtyView) : Type 0 where
  pub found : IsFound v.base word number
  pub after : w ≡ with_published v f number left
  pub seen : IsSeen w.base.setting w.base.seen
  pub readers : (reader : ℕ) → Contains (readers_of v.lists f.net) reader → reader < nets_of v.base.setting

-- ---- looking at a mark
-- from v to w, the first pass finds a mark while none is out
pub record Looked (v : DirtyView) (net mark : ℕ) (w : DirtyView) : Type 0 where
  pub two : (mark ≡ 0) ⊎ (mark ≡ 1)
  pub found : mark ≡ 1 → w ≡ with_found v net
  pub clear : mark ≡ 0 → w ≡ with_clear v net
  -- a mark was set by a pass, or is left from the look before
  pub why : mark ≡ 1 → Contains v.noted net ⊎ (Contains v.found net × (Contains v.taken net → ⊥))
  -- an unmarked net is at or past what the operator makes of it
  pub past : mark ≡ 0 → IsFree v → IsPast v.base.setting v.base.seen net
  -- no word is further than what the operator makes of the words
  pub fits : AreNoFurther v.base.setting.way (bounds_in v.base.seen)
      (onward v.base.setting.design (bounds_in v.base.seen))
  -- the drawn numbers are those below some number, each once
  pub next : ℕ
  pub drawn : (x : ℕ) → times x v.base.drawn ≡ once_below next x
  -- where no net is marked, the words are closed
  pub closed : IsFree w → ((n : ℕ) → n < nets_of w.base.setting → Contains w.clear n)
      → AreClosed w.base.setting.design w.base.seen

-- ---- drawing
-- from v to w: a number is drawn, which is greater than all that v has drawn
pub record Drew (v : DirtyView) (number : ℕ) (w : DirtyView) : Type 0 where
  pub greater : All (λ x. x < number) v.base.drawn
  pub after : w ≡ with_drawn v number

-- ---- the same, of the steps of a table: of the step, the seat before, the number found and the seat after. The marks
-- come after all words of bounds
abbrev pub net_at : Step (Unit {0}) → DirtyView → ℕ
net_at step v = step.word - 8 * nets_of v.base.setting

abbrev pub took : Step (Unit {0}) → Me (Unit {0}) DirtyView → ℕ → Me (Unit {0}) DirtyView → Type 0
took step m number w = Took m.0 (net_at step m.0) number w.0 × (w.1 ≡ m.1)

abbrev pub loaded : Step (Unit {0}) → Me (Unit {0}) DirtyView → ℕ → Me (Unit {0}) DirtyView → Type 0
loaded step m number w = ((f : Flight) → m.0.flight ≡ Some f → Loaded m.0 f step.word number w.0) × (w.1 ≡ m.1)

abbrev pub saw : Step (Unit {0}) → Me (Unit {0}) DirtyView → ℕ → Me (Unit {0}) DirtyView → Type 0
saw step m number w = Saw m.0 step.word number w.0 × (w.1 ≡ m.1)

abbrev pub lowered : Step (Unit {0}) → Me (Unit {0}) DirtyView → ℕ → Me (Unit {0}) DirtyView → Type 0
lowered step m number w =
    ((f : Flight) → m.0.flight ≡ Some f → Published m.0 f step.word number (min number step.first) w.0) × (w.1 ≡ m.1)

abbrev pub raised : Step (Unit {0}) → Me (Unit {0}) DirtyView → ℕ → Me (Unit {0}) DirtyView → Type 0
raised step m number w =
    ((f : Flight) → m.0.flight ≡ Some f → Published m.0 f step.word number (max number step.first) w.0) × (w.1 ≡ m.1)

abbrev pub noted : Step (Unit {0}) → Me (Unit {0}) DirtyView → ℕ → Me (Unit {0}) DirtyView → Type 0
noted step m number w = (w.0 ≡ with_noted m.0 (net_at step m.0)) × (w.1 ≡ m.1)

abbrev pub looked : Step (Unit {0}) → Me (Unit {0}) DirtyView → ℕ → Me (Unit {0}) DirtyView → Type 0
looked step m number w = Looked m.0 (net_at step m.0) number w.0 × (w.1 ≡ m.1)

abbrev pub drawn_next : Step (Unit {0}) → Me (Unit {0}) DirtyView → ℕ → Me (Unit {0}) DirtyView → Type 0
drawn_next step m number w = Drew m.0 number w.0 × (w.1 ≡ m.1)

abbrev pub restarted : Step (Unit {0}) → Me (Unit {0}) DirtyView → ℕ → Me (Unit {0}) DirtyView → Type 0
restarted step m number w = (w.0 ≡ with_anew m.0) × (w.1 ≡ m.1)
