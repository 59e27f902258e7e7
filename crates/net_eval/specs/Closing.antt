-- Windows that the operator gives back.
use Rattle.std.specs.Prelude.{◌≡◌, ℕ, List}
use Rattle.xt_model.specs.declared.edge.Edge.{Edge}
use Rattle.xt_model.specs.declared.quad.Pair.{Pair}
use Rattle.xt_model.specs.Parts.{Parts}
use Rattle.xt_model.specs.Assign.{assigned}
use Rattle.xt_meaning.specs.Operator.{step}

-- the operator gives the windows of net number n back
pub record IsSteadyAt (d : Parts) (v : List Pair) (n : ℕ) : Type 0 where
  pub fixed : (e : Edge) → step d v n e ≡ assigned v n e
