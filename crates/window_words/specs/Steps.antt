-- What each kind of step tells the pass that makes it.
use Rattle.std.specs.Prelude.{◌≡◌, ℕ, ◌+◌, ◌%◌, ◌<◌, min, max, [], ◌∷◌, ◌++◌}
use Rattle.std.specs.List.{All}
use Rattle.atomic_table.specs.Table.{Me, Step}
use Rattle.xt_meaning.specs.Barrier.{IsBoundNoFurther, RespectsAt}
use Rattle.xt_meaning.specs.Words.{bound_in, number_at, bounds_in, onward, AreNoFurther}
use Rattle.chaos_core.specs.Boards.{IsSeen}
use Rattle.chaos_core.specs.Memories.{AreKept}
use Rattle.window_words.specs.declared.view.View.{View}
use Rattle.window_words.specs.Views.{times, with_seen, begun_anew}
use Rattle.window_words.specs.Rule.{once_below}
use Rattle.window_words.specs.Boards.{IsAlone}

-- a number that is found in a word: it crosses no barrier, and is at or past what was seen there
pub record IsFound (v : View) (word number : ℕ) : Type 0 where
  pub respects : RespectsAt v.setting.way v.setting.design word (bound_in number)
  pub past : IsBoundNoFurther v.setting.way (word % 2) (bounds_in v.seen word) (bound_in number)

-- what the first pass knows while none is out: the number is just what was seen, what was seen is no further than what
-- the operator makes of it, and the drawn numbers are those below some number, each once
pub record IsWhole (v : View) (word number : ℕ) : Type 0 where
  pub exact : number ≡ number_at v.seen word
  pub fits : AreNoFurther v.setting.way (bounds_in v.seen) (onward v.setting.design (bounds_in v.seen))
  pub next : ℕ
  pub drawn : (x : ℕ) → times x v.drawn ≡ once_below next x

-- what the first pass knows while none is out, once it has loaded a word: what it has seen is what the words hold, so
-- it is no further than what the operator makes of it; and the drawn numbers are those below some number, each once
pub record IsRested (v : View) : Type 0 where
  pub kept : AreKept v.setting v.seen
  pub next : ℕ
  pub drawn : (x : ℕ) → times x v.drawn ≡ once_below next x

-- from v to w: a number is found in a word, and is then seen there
pub record Loaded (v : View) (word number : ℕ) (w : View) : Type 0 where
  pub found : IsFound v word number
  pub whole : IsAlone v → IsWhole v word number
  pub after : w ≡ with_seen v word number v.made
  pub seen : IsSeen w.setting w.seen

-- from v to w: a number is found in a word, `left` is left in it and seen, and one publication is counted
pub record Published (v : View) (word number left : ℕ) (w : View) : Type 0 where
  pub found : IsFound v word number
  pub after : w ≡ with_seen v word left (v.made + 1)
  pub seen : IsSeen w.setting w.seen

-- from v to w: a number is drawn, which is greater than all that v has drawn
pub record Drew (v : View) (number : ℕ) (w : View) : Type 0 where
  pub greater : All (λ x. x < number) v.drawn
  pub after : w ≡ record v { drawn = v.drawn ++ number ∷ [] }
  pub seen : IsSeen w.setting w.seen

-- ---- the same, of the steps of a table: of the step, the seat before, the number found and the seat after
abbrev pub loaded : Step (Unit {0}) → Me (Unit {0}) View → ℕ → Me (Unit {0}) View → Type 0
loaded step m number w = Loaded m.0 step.word number w.0 × (w.1 ≡ m.1)

abbrev pub lowered : Step (Unit {0}) → Me (Unit {0}) View → ℕ → Me (Unit {0}) View → Type 0
lowered step m number w = Published m.0 step.word number (min number step.first) w.0 × (w.1 ≡ m.1)

abbrev pub raised : Step (Unit {0}) → Me (Unit {0}) View → ℕ → Me (Unit {0}) View → Type 0
raised step m number w = Published m.0 step.word number (max number step.first) w.0 × (w.1 ≡ m.1)

abbrev pub drawn_next : Step (Unit {0}) → Me (Unit {0}) View → ℕ → Me (Unit {0}) View → Type 0
drawn_next step m number w = Drew m.0 number w.0 × (w.1 ≡ m.1)

abbrev pub restarted : Step (Unit {0}) → Me (Unit {0}) View → ℕ → Me (Unit {0}) View → Type 0
restarted step m number w = (w.0 ≡ begun_anew m.0) × (w.1 ≡ m.1)
