-- The rule of the shared words: what holds of the words and of what all passes know, at every moment. The words are
-- those of the bounds, eight for each net, and behind them the draw word.
use Rattle.std.specs.Prelude.{◌≡◌, ℕ, ◌+◌, ◌-◌, ◌<◌, ◌≤◌, nat_lt, List, [], ◌∷◌, ◌++◌, length}
use Rattle.std.specs.Prelude.{if◌then◌else◌}
use mathlib.Core.Option.{some}
use lib.ListN.{get_elem?}
use Rattle.atomic_table.specs.Table.{State}
use Rattle.xt_model.specs.Limits.{most_workers}
use Rattle.xt_meaning.specs.Words.{number_at, bounds_in, AreNoFurther}
use Rattle.chaos_core.specs.declared.setting.Setting.{Setting}
use Rattle.chaos_core.specs.Boards.{nets_of, started}
use Rattle.chaos_core.specs.Memories.{AreKept}
use Rattle.window_words.specs.declared.view.Role.{Role}
use Rattle.window_words.specs.declared.view.Role.TheVariants.{First, Other, Spent}
use Rattle.window_words.specs.declared.view.View.{View}
use Rattle.window_words.specs.Views.{IsUnspent, first_count, other_count, times, count_from, total}

-- a view that is among the views, by its number
abbrev pub IsThere : List View → ℕ → View → Type 0
IsThere views id v = get_elem? views id ≡ some v

-- a fact about the view of each pass that was not joined again
abbrev pub EachUnspent : List View → (View → Type 0) → Type 0
EachUnspent views P = (id : ℕ) (v : View) → IsThere views id v → IsUnspent v.role → P v

-- every pass knows the run that the words are of
abbrev pub AreOf : Setting → List View → Type 0
AreOf a views = EachUnspent views (λ v. v.setting ≡ a)

-- ---- first point: no word crosses a barrier, each is at or past the start, and none is further than what the operator
-- makes of the words
abbrev pub AreBounded : Setting → List ℕ → Type 0
AreBounded a now = AreKept a now

-- ---- second point: each word is at or past what every pass has seen there, and is what one of them has seen there;
-- what a pass has seen is at or past the start
pub record IsBehind (a : Setting) (now : List ℕ) (v : View) : Type 0 where
  pub count : length v.seen ≡ length now
  pub started : AreNoFurther a.way (started a) (bounds_in v.seen)
  pub behind : AreNoFurther a.way (bounds_in v.seen) (bounds_in now)

-- some pass has seen this number in a word
pub record IsSeenBySome (views : List View) (word number : ℕ) : Type 0 where
  pub id : ℕ
  pub view : View
  pub there : IsThere views id view
  pub unspent : IsUnspent view.role
  pub seen : number_at view.seen word ≡ number

pub record AreSeen (a : Setting) (now : List ℕ) (views : List View) : Type 0 where
  pub behind : EachUnspent views (IsBehind a now)
  pub shown : (word : ℕ) → word < length now → IsSeenBySome views word (number_at now word)

-- ---- third point: the numbers below the draw word are just the numbers that the passes have drawn, each once
abbrev pub once_below : ℕ → ℕ → ℕ
once_below next x = if nat_lt x next then 1 else 0

abbrev pub AreDrawn : ℕ → List View → Type 0
AreDrawn next views = (x : ℕ) → total (λ v. times x v.drawn) views ≡ once_below next x

-- ---- fourth point: one pass is the first, the others are as many as it has out, these are no more than it split off,
-- and it split off no more than there can be workers
abbrev pub most_split : Role → ℕ
most_split First = most_workers
most_split Other = 0
most_split Spent = 0

pub record AreCounted (views : List View) : Type 0 where
  pub first : total (λ v. first_count v.role) views ≡ 1
  pub others : total (λ v. other_count v.role) views ≡ total (λ v. v.out) views
  pub out : (id : ℕ) (v : View) → IsThere views id v → v.out ≤ v.split
  pub split : (id : ℕ) (v : View) → IsThere views id v → v.split ≤ most_split v.role

-- ---- fifth point: of the numbers at or past the net count the first pass has drawn at most one, and one for each pass
-- that came back; every other pass has drawn at most one, and a joined one none at all
abbrev pub most_late : View → Role → ℕ
most_late v First = (1 + v.split) - v.out
most_late v Other = 1
most_late v Spent = 0

pub record AreFew (a : Setting) (next : ℕ) (views : List View) : Type 0 where
  pub each : (id : ℕ) (v : View) → IsThere views id v → count_from (nets_of a) v.drawn ≤ most_late v v.role
  pub spent : (id : ℕ) (v : View) → IsThere views id v → v.role ≡ Spent → v.drawn ≡ []
  pub all : total (λ v. count_from (nets_of a) v.drawn) views ≡ next - nets_of a

-- ---- all of it
pub record Kept (a : Setting) (s : State (Unit {0}) View) : Type 0 where
  pub now : List ℕ
  pub next : ℕ
  pub words : s.words ≡ now ++ next ∷ []
  pub run : AreOf a s.views
  pub bounded : AreBounded a now
  pub seen : AreSeen a now s.views
  pub drawn : AreDrawn next s.views
  pub counted : AreCounted s.views
  pub few : AreFew a next s.views
