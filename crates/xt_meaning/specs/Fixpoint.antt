-- The least and the greatest fixpoint of the operator, by comparison with every assignment of windows
-- (Knaster and Tarski).
use Rattle.std.specs.Prelude.{◌≡◌, ℕ, List, length}
use Rattle.std.specs.List.{All}
use Rattle.xt_model.specs.declared.edge.Edge.{Edge}
use Rattle.xt_model.specs.declared.quad.Pair.{Pair}
use Rattle.xt_model.specs.Quads.{IsWithin, IsPairInRange}
use Rattle.xt_model.specs.Parts.{Parts}
use Rattle.xt_model.specs.Assign.{Assignment, assigned}
use Rattle.xt_meaning.specs.Operator.{step}

-- one pair of windows for each net, with bounds that words can hold
pub record IsWindows (d : Parts) (v : List Pair) : Type 0 where
  pub count : length v ≡ length d.nets
  pub in_range : All IsPairInRange v

-- W lies within V, quad by quad
pub record IsContained (W V : Assignment) : Type 0 where
  pub each : (n : ℕ) (e : Edge) → IsWithin (W n e) (V n e)

-- the operator gives the windows themselves
pub record IsFixpoint (d : Parts) (v : List Pair) : Type 0 where
  pub windows : IsWindows d v
  pub fixed : (n : ℕ) (e : Edge) → step d v n e ≡ assigned v n e

-- x is a fixpoint, and lies within all windows that contain what the operator makes of them
pub record IsLeastFixpoint (d : Parts) (x : List Pair) : Type 0 where
  pub fixpoint : IsFixpoint d x
  pub least : (v : List Pair) → IsWindows d v → IsContained (step d v) (assigned v)
      → IsContained (assigned x) (assigned v)

-- y is a fixpoint, and contains all windows that lie within what the operator makes of them
pub record IsGreatestFixpoint (d : Parts) (y : List Pair) : Type 0 where
  pub fixpoint : IsFixpoint d y
  pub greatest : (v : List Pair) → IsWindows d v → IsContained (assigned v) (step d v)
      → IsContained (assigned v) (assigned y)
