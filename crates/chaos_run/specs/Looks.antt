-- Windows that stand in words, and looks at a part of the nets.
use Rattle.std.specs.Prelude.{◌≡◌, ℕ, ◌+◌, ℤ, Bool, false, IsTrue, List, length}
use Rattle.std.specs.List.{slice_index_or}
use Rattle.xt_model.specs.declared.quad.Quad.{Quad}
use Rattle.xt_model.specs.declared.quad.Pair.{Pair}
use Rattle.xt_model.specs.Parts.{Parts}
use Rattle.xt_meaning.specs.Fixpoint.{IsWindows}
use Rattle.net_eval.specs.Closing.{IsSteadyAt}

-- the window whose four bounds stand in the words from this one on
abbrev pub quad_from : (ℕ → ℤ) → ℕ → Quad
quad_from f word = record { tlo = f word; thi = f (word + 1); slo = f (word + 2); shi = f (word + 3) }

-- windows, and a mark for each net from one number to before another: the operator gives the windows of each of these
-- nets back that is marked
pub record IsLookBetween (d : Parts) (v : List Pair) (from to : ℕ) (marks : List Bool) : Type 0 where
  pub windows : IsWindows d v
  pub count : from + length marks ≡ to
  pub steady : (place : ℕ) → IsTrue (slice_index_or marks place false) → IsSteadyAt d v (from + place)
