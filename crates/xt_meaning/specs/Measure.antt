-- How far windows can still go in a direction: the measure of a run by rounds.
use Rattle.std.specs.Prelude.{ℕ, ◌+◌, ℤ, ◌+ℤ◌, ◌-ℤ◌, unsigned_abs, List, [], ◌∷◌}
use Rattle.xt_model.specs.declared.direction.Direction.{Direction}
use Rattle.xt_model.specs.declared.direction.Direction.TheVariants.{Widen, Narrow}
use Rattle.xt_model.specs.declared.quad.Quad.{Quad}
use Rattle.xt_model.specs.declared.quad.Pair.{Pair}
use Rattle.xt_model.specs.Quads.{top_bound}

-- how far a bound is above the least one, and below the greatest one
abbrev pub above_least : ℤ → ℕ
above_least z = unsigned_abs (z +ℤ top_bound)

abbrev pub below_greatest : ℤ → ℕ
below_greatest z = unsigned_abs (top_bound -ℤ z)

-- how far the bounds of a window can still go
abbrev pub quad_room : Direction → Quad → ℕ
quad_room Widen q = (above_least q.tlo + below_greatest q.thi) + (above_least q.slo + below_greatest q.shi)
quad_room Narrow q = (below_greatest q.tlo + above_least q.thi) + (below_greatest q.slo + above_least q.shi)

abbrev pub pair_room : Direction → Pair → ℕ
pair_room way p = quad_room way p.rise + quad_room way p.fall

-- how far all windows can still go
abbrev pub room : Direction → List Pair → ℕ
room way [] = 0
room way (p ∷ more) = pair_room way p + room way more
