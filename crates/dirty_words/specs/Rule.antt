-- The rule of words with marks: what holds of the words, of the marks and of what all passes know, at every moment. The
-- words are those of the bounds, eight for each net, then a mark for each net, then the draw word.
use Rattle.std.specs.Prelude.{◌≡◌, ℕ, ◌+◌, ◌*◌, ◌%◌, ◌<◌, ◌≤◌, ◌⊎◌, List, [], ◌∷◌, ◌++◌, length, slice_index, Some}
use Rattle.std.specs.List.{Contains}
use mathlib.Core.Option.{some}
use lib.ListN.{get_elem?}
use Rattle.atomic_table.specs.Table.{State}
use Rattle.xt_model.specs.declared.net.NetId.{NetId}
use Rattle.xt_model.specs.Levels.{IsOrder}
use Rattle.xt_meaning.specs.Barrier.{IsBoundNoFurther}
use Rattle.xt_meaning.specs.Words.{number_at, bounds_in, onward}
use Rattle.net_eval.specs.ReadLists.{AreReadLists}
use Rattle.chaos_core.specs.declared.setting.Setting.{Setting}
use Rattle.chaos_core.specs.Boards.{nets_of}
use Rattle.chaos_core.specs.Tasks.{list_of, word_to_load, evaluated, bound_at}
use Rattle.chaos_core.specs.Steps.{AreLoaded}
use Rattle.window_words.specs.declared.view.Role.TheVariants.{First}
use Rattle.window_words.specs.declared.view.View.{View}
use Rattle.window_words.specs.Views.{IsUnspent}
use Rattle.window_words.specs.Rule.{Kept}
use Rattle.window_words.specs.Boards.{IsAlone}
use Rattle.dirty_words.specs.declared.view.Flight.{Flight}
use Rattle.dirty_words.specs.declared.view.DirtyView.{DirtyView}
use Rattle.dirty_words.specs.Views.{Run, bases}

-- a view that is among the views, by its number
abbrev pub IsThere : List DirtyView → ℕ → DirtyView → Type 0
IsThere views id v = get_elem? views id ≡ some v

abbrev pub IsLive : DirtyView → Type 0
IsLive v = IsUnspent v.base.role

-- a fact of the view of each pass that was not joined again
abbrev pub EachLive : List DirtyView → (DirtyView → Type 0) → Type 0
EachLive views P = (id : ℕ) (v : DirtyView) → IsThere views id v → IsLive v → P v

-- a fact of the view of some pass that was not joined again
pub record SomeLive (views : List DirtyView) (P : DirtyView → Type 0) : Type 0 where
  pub id : ℕ
  pub view : DirtyView
  pub there : IsThere views id view
  pub live : IsLive view
  pub holds : P view

-- ---- the words of the bounds and the draw word, and what is seen and drawn: the rule of words without marks
abbrev pub KeptBelow : Setting → List ℕ → ℕ → List View → Type 0
KeptBelow a now next views = Kept a (record { words = now ++ next ∷ []; homes = []; views = views })

-- ---- marks: one for each net, 0 or 1
abbrev pub mark_at : List ℕ → ℕ → ℕ
mark_at marks net = slice_index marks net

pub record AreMarks (a : Setting) (marks : List ℕ) : Type 0 where
  pub count : length marks ≡ nets_of a
  pub each : (net : ℕ) → mark_at marks net ≤ 1

-- ---- no net is forgotten: it is marked, some pass owes it a mark, some pass has it in flight and what it loaded is
-- still in the words, or its words are at or past what the operator makes of the words
-- each number is still in the word from which it was loaded
abbrev pub Agrees : List ℕ → List ℕ → List ℕ → Type 0
Agrees now reads numbers = (i : ℕ) → i < length numbers
    → number_at now (word_to_load reads i) ≡ slice_index numbers i

-- a pass has a net in flight, and what it loaded for it is still in the words
pub record HasInFlight (lists : List (List NetId)) (now : List ℕ) (net : ℕ) (v : DirtyView) : Type 0 where
  pub flight : Flight
  pub is : v.flight ≡ Some flight
  pub own : flight.net ≡ net
  pub agrees : Agrees now (list_of lists net) flight.numbers

-- the words of a net are at or past what the operator makes of the words
abbrev pub IsPast : Setting → List ℕ → ℕ → Type 0
IsPast a now net = (i : ℕ) → i < 8
    → IsBoundNoFurther a.way (i % 2) (onward a.design (bounds_in now) (8 * net + i)) (bounds_in now (8 * net + i))

pub data IsCovered (r : Run) (now marks : List ℕ) (views : List DirtyView) (net : ℕ) : Type 0 where
  marked : mark_at marks net ≡ 1 → IsCovered r now marks views net
  owing : SomeLive views (λ v. Contains v.owed net) → IsCovered r now marks views net
  flying : SomeLive views (HasInFlight r.lists now net) → IsCovered r now marks views net
  past : IsPast r.setting now net → IsCovered r now marks views net

-- ---- flights: what is loaded is from the first words of the read list, at or past the start and at or before what is
-- seen; where a word is published, the whole list is loaded, and what is seen in each published word is at or past what
-- the operator makes of what was loaded
pub record IsFlown (r : Run) (seen : List ℕ) (f : Flight) : Type 0 where
  pub there : f.net < nets_of r.setting
  pub loaded : AreLoaded r.setting seen (list_of r.lists f.net) f.numbers
  pub more : f.published < 8
  pub whole : 0 < f.published → length f.numbers ≡ 8 * length (list_of r.lists f.net)
  pub past : (i : ℕ) → i < f.published → IsBoundNoFurther r.setting.way (i % 2)
      (bound_at (evaluated r.setting.design (list_of r.lists f.net) f.numbers f.net) i) (bounds_in seen (8 * f.net + i))

abbrev pub FliesWell : Run → DirtyView → Type 0
FliesWell r v = (f : Flight) → v.flight ≡ Some f → IsFlown r v.base.seen f

-- ---- nets known to be unmarked: only the first pass knows of any, while none is out
abbrev pub KnowsClear : List ℕ → DirtyView → Type 0
KnowsClear marks v = (net : ℕ) → Contains v.clear net → IsAlone v.base × (mark_at marks net ≡ 0)

-- ---- who took and who set the marks
-- a pass drew the number of the net's place in the order of the nets
pub record HasDrawn (v : DirtyView) (net : ℕ) : Type 0 where
  pub number : ℕ
  pub drawn : Contains v.base.drawn number
  pub below : number < nets_of v.base.setting
  pub place : (order : List ℕ) → IsOrder v.base.setting.design.nets order → slice_index order number ≡ net

-- a pass drew the number of the net's place, and took its mark or found it unmarked
pub record HasTaken (net : ℕ) (v : DirtyView) : Type 0 where
  pub drew : HasDrawn v net
  pub taken : Contains v.taken net

-- the first pass found the net marked
pub record HasFound (net : ℕ) (v : DirtyView) : Type 0 where
  pub first : v.base.role ≡ First
  pub found : Contains v.found net

-- the first pass found the net marked, and no pass took the mark
pub record IsLeft (views : List DirtyView) (net : ℕ) : Type 0 where
  pub found : SomeLive views (HasFound net)
  pub none : EachLive views (λ v. Contains v.taken net → ⊥)

pub record AreTracked (marks : List ℕ) (views : List DirtyView) : Type 0 where
  -- a net that a pass knows to have been found marked is marked, or its mark was taken
  pub found : EachLive views (λ v. (net : ℕ) → Contains v.found net
      → (mark_at marks net ≡ 1) ⊎ SomeLive views (HasTaken net))
  -- a net that is marked was marked by some pass, or is left from the last look
  pub traced : (net : ℕ) → mark_at marks net ≡ 1 → SomeLive views (λ v. Contains v.noted net) ⊎ IsLeft views net

-- ---- all of it
pub record KeptAt (r : Run) (now marks : List ℕ) (next : ℕ) (views : List DirtyView) : Type 0 where
  pub below : KeptBelow r.setting now next (bases views)
  pub whole : AreReadLists r.setting.design r.lists
  pub known : EachLive views (λ v. v.lists ≡ r.lists)
  pub fits : AreMarks r.setting marks
  pub covered : (net : ℕ) → net < nets_of r.setting → IsCovered r now marks views net
  pub flown : EachLive views (FliesWell r)
  pub clear : EachLive views (KnowsClear marks)
  pub tracked : AreTracked marks views

pub record KeptMarked (r : Run) (s : State (Unit {0}) DirtyView) : Type 0 where
  pub now : List ℕ
  pub marks : List ℕ
  pub next : ℕ
  pub words : s.words ≡ now ++ (marks ++ next ∷ [])
  pub rest : KeptAt r now marks next s.views
