-- Sizes of numbers, and sums within their limits.
use Rattle.std.specs.Prelude.{ℕ, ◌≤◌, ℤ, pos, neg_ℤ, ◌<ℤ◌}
use Rattle.xt_model.specs.Limits.{most_couplings, most_coefficients, most_arcs}
use Rattle.linked_text.specs.declared.head.Sums.{Sums}

-- a number whose size is below the limit
pub record IsSmaller (limit : ℕ) (x : ℤ) : Type 0 where
  pub low : neg_ℤ (pos limit) <ℤ x
  pub high : x <ℤ pos limit

-- the sums of some nets are within their limits
pub record AreFew (s : Sums) : Type 0 where
  pub couplings : s.couplings ≤ most_couplings
  pub coefficients : s.coefficients ≤ most_coefficients
  pub arcs : s.arcs ≤ most_arcs
