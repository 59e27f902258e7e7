-- Barriers: what a run in one direction never crosses. These are the only definitions here that look at all
-- assignments for the sake of a run.
use Rattle.std.specs.Prelude.{ℕ, ◌%◌, zero, suc, ℤ, ◌≤ℤ◌, List}
use Rattle.xt_model.specs.declared.direction.Direction.{Direction}
use Rattle.xt_model.specs.declared.direction.Direction.TheVariants.{Widen, Narrow}
use Rattle.xt_model.specs.declared.edge.Edge.{Edge}
use Rattle.xt_model.specs.declared.quad.Quad.{Quad}
use Rattle.xt_model.specs.declared.quad.Pair.{Pair}
use Rattle.xt_model.specs.Quads.{IsWithin}
use Rattle.xt_model.specs.Parts.{Parts}
use Rattle.xt_model.specs.Assign.{Assignment, assigned, words_of}
use Rattle.xt_meaning.specs.Operator.{step}
use Rattle.xt_meaning.specs.Fixpoint.{IsWindows, IsContained}
use Rattle.xt_meaning.specs.Envelope.{IsEnvelope, IsAccepted}

-- quad q is no further than quad r: in widening it lies within r, in narrowing it contains r
abbrev pub IsNoFurther : Direction → Quad → Quad → Type 0
IsNoFurther Widen q r = IsWithin q r
IsNoFurther Narrow q r = IsWithin r q

-- each quad of W is no further than that of V
pub record NoFurther (way : Direction) (W V : Assignment) : Type 0 where
  pub each : (n : ℕ) (e : Edge) → IsNoFurther way (W n e) (V n e)

-- bound a of a word is no further than bound b; words with an even number are low bounds
abbrev pub IsBoundNoFurther : Direction → ℕ → ℤ → ℤ → Type 0
IsBoundNoFurther Widen zero a b = b ≤ℤ a
IsBoundNoFurther Widen (suc n) a b = a ≤ℤ b
IsBoundNoFurther Narrow zero a b = a ≤ℤ b
IsBoundNoFurther Narrow (suc n) a b = b ≤ℤ a

-- windows that the operator does not move further: in widening it makes something within them, in narrowing
-- something that contains them
pub record IsBarrier (way : Direction) (d : Parts) (v : List Pair) : Type 0 where
  pub windows : IsWindows d v
  pub closed : NoFurther way (step d v) (assigned v)

-- bound b of this word is at every barrier or before it
pub record RespectsAt (way : Direction) (d : Parts) (word : ℕ) (b : ℤ) : Type 0 where
  pub each : (v : List Pair) → IsBarrier way d v → IsBoundNoFurther way (word % 2) b (words_of (assigned v) word)

-- every word of the assignment respects every barrier
pub record Respects (way : Direction) (d : Parts) (W : Assignment) : Type 0 where
  pub each : (word : ℕ) → RespectsAt way d word (words_of W word)

-- the design has an envelope that keeps the limits, and the windows lie within it
pub record IsWithinEnvelope (d : Parts) (v : List Pair) : Type 0 where
  pub top : List Pair
  pub envelope : IsEnvelope d top
  pub accepted : IsAccepted d top
  pub contained : IsContained (assigned v) (assigned top)

-- windows from which a run in this direction ends in the fixpoint of that side
pub record IsFittingStart (way : Direction) (d : Parts) (v : List Pair) : Type 0 where
  pub windows : IsWindows d v
  pub respects : Respects way d (assigned v)
  pub fits : NoFurther way (assigned v) (step d v)
  pub within : IsWithinEnvelope d v
