-- Windows one after another, as rounds make them.
use Rattle.std.specs.Prelude.{◌≡◌, ℕ, ◌+◌, ◌<◌, ◌≤◌, List, length}
use Rattle.xt_model.specs.declared.direction.Direction.{Direction}
use Rattle.xt_model.specs.declared.edge.Edge.{Edge}
use Rattle.xt_model.specs.Quads.{bottom}
use Rattle.xt_model.specs.Levels.{greatest_of, AreLevels, ArePairs, bound_of}
use Rattle.xt_model.specs.Parts.{Parts}
use Rattle.xt_model.specs.Sound.{IsSound}
use Rattle.xt_model.specs.Assign.{Assignment}
use Rattle.xt_meaning.specs.Operator.{operator}
use Rattle.xt_meaning.specs.Barrier.{NoFurther}

-- the operator makes of windows the windows themselves
pub record IsStill (d : Parts) (W : Assignment) : Type 0 where
  pub each : (n : ℕ) (e : Edge) → operator d W n e ≡ W n e

-- the windows s 0 to s count: each are no further than what the operator makes of them, and the next are at or past
-- them and what it makes of them; past the last net nothing switches
pub record IsChain (way : Direction) (d : Parts) (s : ℕ → Assignment) (count : ℕ) : Type 0 where
  pub fits : (i : ℕ) → i ≤ count → NoFurther way (s i) (operator d (s i))
  pub onward : (i : ℕ) → i < count → NoFurther way (s i) (s (i + 1))
  pub past : (i : ℕ) → i < count → NoFurther way (operator d (s i)) (s (i + 1))
  pub outside : (i n : ℕ) (e : Edge) → i ≤ count → length d.nets ≤ n → s i n e ≡ bottom

-- a chain that is still nowhere before its end is no longer than the bound on rounds
abbrev pub ChainsAreShort : Type 0
ChainsAreShort = (way : Direction) (d : Parts) (levels : List ℕ) (pairs : List (ℕ × ℕ)) (s : ℕ → Assignment) (count : ℕ)
    → IsSound d → AreLevels d.nets levels → ArePairs d.nets pairs → IsChain way d s count
    → ((i : ℕ) → i < count → IsStill d (s i) → ⊥) → count ≤ bound_of (length pairs) (greatest_of levels)
