-- Numbers of a table, mixed along an axis.
use Rattle.std.specs.Prelude.{ℕ, ℤ, ◌+ℤ◌, ◌*ℤ◌}
use Rattle.xt_model.specs.Tables.{TableParts}
use Rattle.xt_meaning.specs.Lookup.{Span, cell_value}

-- p and q, weighted by a distance each
abbrev pub mixed : ℤ → ℤ → ℤ → ℤ → ℤ
mixed p q below above = (p *ℤ below) +ℤ (q *ℤ above)

-- the two values of a column beside a slew, weighted by the distances along the slews
abbrev pub along_slews : TableParts → ℕ → Span → ℤ
along_slews t column s = mixed (cell_value t s.first column) (cell_value t s.second column) s.below s.above
