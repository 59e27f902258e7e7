-- Shared words, as one of those who work on them knows them.
use Rattle.std.specs.Prelude.{◌≡◌, ℕ, ◌+◌, ◌-◌, ◌*◌, ◌<◌, ◌%◌, nat_lt, Bool, true, false, IsTrue, ℤ}
use Rattle.std.specs.Prelude.{List, [], ◌∷◌, ◌++◌, length, slice_set}
use Rattle.std.specs.Prelude.{if◌then◌else◌}
use Rattle.std.specs.List.{All}
use Rattle.xt_model.specs.Sound.{IsSound}
use Rattle.xt_model.specs.Assign.{assigned, words_of}
use Rattle.xt_meaning.specs.Barrier.{IsBoundNoFurther, RespectsAt, IsFittingStart}
use Rattle.xt_meaning.specs.Words.{bound_in, number_at, bounds_in, onward, AreNoFurther, further}
use Rattle.chaos_core.specs.declared.setting.Setting.{Setting}

abbrev pub nets_of : Setting → ℕ
nets_of a = length a.design.nets

-- the bounds of the start, by words
abbrev pub started : Setting → ℕ → ℤ
started a = words_of (assigned a.start)

-- what a holder of a board knows: the run that the words are of, the name of the table of words, the number seen in
-- each word, the numbers drawn since the last restart, how many publications were counted, how many numbers at or past
-- the net count may still be drawn, and whether nobody else can move the words
pub record Knowledge : Type 0 where
  pub setting : Setting
  pub home : List ℕ
  pub seen : List ℕ
  pub drawn : List ℕ
  pub made : ℕ
  pub late : ℕ
  pub alone : Bool

-- numbers seen in the words of a run: none crosses a barrier, each is at or past the start, and the start fits
pub record IsSeen (a : Setting) (seen : List ℕ) : Type 0 where
  pub sound : IsSound a.design
  pub start : IsFittingStart a.way a.design a.start
  pub count : length seen ≡ 8 * nets_of a
  pub respects : (word : ℕ) → RespectsAt a.way a.design word (bounds_in seen word)
  pub started : AreNoFurther a.way (started a) (bounds_in seen)

-- k with another number seen in a word, and another count of publications
abbrev pub with_seen : Knowledge → ℕ → ℕ → ℕ → Knowledge
with_seen k word number made = record k { seen = slice_set k.seen word number; made = made }

-- a number that is found in a word: it crosses no barrier and is at or past what was seen there, and is just that
-- where nobody else can move the words
pub record IsFound (k : Knowledge) (word number : ℕ) : Type 0 where
  pub respects : RespectsAt k.setting.way k.setting.design word (bound_in number)
  pub past : IsBoundNoFurther k.setting.way (word % 2) (bounds_in k.seen word) (bound_in number)
  pub alone : IsTrue k.alone → number ≡ number_at k.seen word

-- from k to l: a number is found in a word, and is then seen there
pub record Loads (k : Knowledge) (word number : ℕ) (l : Knowledge) : Type 0 where
  pub found : IsFound k word number
  pub after : l ≡ with_seen k word number k.made

-- how many publications are counted for some: each, where others can move the words too, and none where nobody can
abbrev pub counted : Bool → ℕ → ℕ
counted true count = 0
counted false count = count

-- from k to l: a number is found in a word, `left` is left in it and seen, and the publication is counted
pub record Publishes (k : Knowledge) (word number left : ℕ) (l : Knowledge) : Type 0 where
  pub found : IsFound k word number
  pub after : l ≡ with_seen k word left (k.made + counted k.alone 1)

-- from k to l: a word is moved to a value, where that is further than the number that is found there
abbrev pub HasPublished : Knowledge → ℕ → ℕ → Knowledge → Type 0
HasPublished k word value l = (number : ℕ) × Publishes k word number (further k.setting.way (word % 2) number value) l

-- a value may be published in a word: it is no further than what the operator makes there of what was seen
abbrev pub CanPublish : Knowledge → ℕ → ℕ → Type 0
CanPublish k word value =
    IsBoundNoFurther k.setting.way (word % 2) (bound_in value) (onward k.setting.design (bounds_in k.seen) word)

-- how many numbers at or past the net count may still be drawn after this number
abbrev pub late_after : Knowledge → ℕ → ℕ
late_after k number = if nat_lt number (nets_of k.setting) then k.late else k.late - 1

-- from k to l: a number greater than every number drawn so far is drawn
pub record Draws (k : Knowledge) (number : ℕ) (l : Knowledge) : Type 0 where
  pub greater : All (λ x. x < number) k.drawn
  pub after : l ≡ record k { drawn = k.drawn ++ number ∷ []; late = late_after k number }
