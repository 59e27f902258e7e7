-- Laws of runs by words: words beside windows, the operator at a word, the read list, and the measure.
use Rattle.std.specs.Prelude.{◌≡◌, ◌↔◌, ℕ, ◌*◌, ◌/◌, ◌%◌, ◌<◌, ◌≤◌, ◌⊎◌, Bool, IsTrue, ℤ, ◌≤ℤ◌, List, [], length}
use Rattle.std.specs.List.{All}
use Rattle.xt_model.specs.declared.direction.Direction.{Direction}
use Rattle.xt_model.specs.declared.edge.Edge.{Edge}
use Rattle.xt_model.specs.declared.quad.Pair.{Pair}
use Rattle.xt_model.specs.Quads.{IsBound, IsPairInRange}
use Rattle.xt_model.specs.Parts.{Parts}
use Rattle.xt_model.specs.Sound.{IsSound}
use Rattle.xt_model.specs.Assign.{Assignment, assigned, words_of, quads_of}
use Rattle.xt_meaning.specs.Operator.{step}
use Rattle.xt_meaning.specs.Reads.{HoldsOfReads, IsReadList}
use Rattle.xt_meaning.specs.Fixpoint.{IsWindows, IsFixpoint}
use Rattle.xt_meaning.specs.Barrier.{NoFurther, IsBoundNoFurther, RespectsAt, IsFittingStart}
use Rattle.xt_meaning.specs.Words.{bound_in, top_number, number_for, number_at, bounds_in, numbers_of, onward}
use Rattle.xt_meaning.specs.Words.{AreNoFurther}
use Rattle.xt_meaning.specs.Words.{further, furthest}
use Rattle.xt_meaning.specs.Measure.{room}

-- an assignment is its words, and words are the assignment that they make
pub record WordsAreWindows : Type 0 where
  pub quads : (W : Assignment) (n : ℕ) (e : Edge) → quads_of (words_of W) n e ≡ W n e
  pub words : (f : ℕ → ℤ) (word : ℕ) → words_of (quads_of f) word ≡ f word

-- windows are no further than others exactly where their words are
pub record NoFurtherIsByWords : Type 0 where
  pub windows : (way : Direction) (W V : Assignment) → NoFurther way W V ↔ AreNoFurther way (words_of W) (words_of V)
  pub words : (way : Direction) (f g : ℕ → ℤ) → AreNoFurther way f g ↔ NoFurther way (quads_of f) (quads_of g)

-- numbers of words stand for bounds, in their order
pub record NumbersAreBounds : Type 0 where
  pub order : (m n : ℕ) → (bound_in m ≤ℤ bound_in n) ↔ (m ≤ n)
  pub there : (b : ℤ) → IsBound b → (bound_in (number_for b) ≡ b) × (number_for b ≤ top_number)
  pub back : (n : ℕ) → n ≤ top_number → IsBound (bound_in n) × (number_for (bound_in n) ≡ n)

-- the numbers of windows: eight for each net, each for its bound
pub record NumbersAreWindows : Type 0 where
  pub count : (v : List Pair) → length (numbers_of v) ≡ 8 * length v
  pub each : (v : List Pair) (word : ℕ) → All IsPairInRange v
      → bounds_in (numbers_of v) word ≡ words_of (assigned v) word
  pub past : (numbers : List ℕ) (word : ℕ) → length numbers ≤ word
      → bounds_in numbers word ≡ words_of (assigned []) word

-- of two numbers of a word the further is one of the two, and neither is further than it; a bound that neither
-- passes it does not pass
pub record FurtherIsLeast : Type 0 where
  pub one : (way : Direction) (side m n : ℕ) → (further way side m n ≡ m) ⊎ (further way side m n ≡ n)
  pub first : (way : Direction) (side m n : ℕ)
      → IsBoundNoFurther way side (bound_in m) (bound_in (further way side m n))
  pub second : (way : Direction) (side m n : ℕ)
      → IsBoundNoFurther way side (bound_in n) (bound_in (further way side m n))
  pub least : (way : Direction) (side m n : ℕ) (b : ℤ) → IsBoundNoFurther way side (bound_in m) b
      → IsBoundNoFurther way side (bound_in n) b → IsBoundNoFurther way side (bound_in (further way side m n)) b
  pub each : (way : Direction) (ms ns : List ℕ) (word : ℕ) → length ms ≡ length ns
      → number_at (furthest way ms ns) word ≡ further way (word % 2) (number_at ms word) (number_at ns word)

-- at a word, the operator goes no further where no word that it looks at for that net is further
abbrev pub OnwardIsMonotone : Type 0
OnwardIsMonotone = (read : ℕ → Bool) (way : Direction) (d : Parts) (f g : ℕ → ℤ) (word : ℕ)
    → IsSound d → HoldsOfReads (λ n. IsTrue (read n)) d (word / 8)
    → ((w : ℕ) → IsTrue (read (w / 8)) → IsBoundNoFurther way (w % 2) (f w) (g w))
    → IsBoundNoFurther way (word % 2) (onward d f word) (onward d g word)

-- and it depends on those words alone
abbrev pub OnwardReadsLittle : Type 0
OnwardReadsLittle = (read : ℕ → Bool) (d : Parts) (f g : ℕ → ℤ) (word : ℕ)
    → IsSound d → HoldsOfReads (λ n. IsTrue (read n)) d (word / 8) → ((w : ℕ) → IsTrue (read (w / 8)) → f w ≡ g w)
    → onward d f word ≡ onward d g word

-- after words that cross no barrier, words that are at or past them and no further than what the operator makes of
-- them cross none, and are no further than what it makes of themselves
abbrev pub WordsKeepOn : Type 0
WordsKeepOn = (way : Direction) (d : Parts) (f g : ℕ → ℤ) → IsSound d → ((word : ℕ) → RespectsAt way d word (f word))
    → AreNoFurther way f g → AreNoFurther way g (onward d f)
    → ((word : ℕ) → RespectsAt way d word (g word)) × AreNoFurther way g (onward d g)

-- something holds of the read list of a net exactly where it holds of every net that the operator looks at for it,
-- and a net has one read list
pub record ReadListIsWhole : Type 0 where
  pub holds : (read : ℕ → Bool) (d : Parts) (n : ℕ) (reads : List ℕ) → IsReadList d n reads
      → HoldsOfReads (λ m. IsTrue (read m)) d n ↔ All (λ m. IsTrue (read m)) reads
  pub one : (d : Parts) (n : ℕ) (reads others : List ℕ) → IsReadList d n reads → IsReadList d n others → reads ≡ others

-- a round that goes at least as far as the operator leaves less room than there was, unless it began at a fixpoint
abbrev pub RoundsUseRoom : Type 0
RoundsUseRoom = (way : Direction) (d : Parts) (before after : List Pair) → IsFittingStart way d before
    → IsWindows d after
    → NoFurther way (assigned before) (assigned after) → NoFurther way (step d before) (assigned after)
    → IsFixpoint d before ⊎ (room way after < room way before)
