-- The least and the greatest value of a table at one slew, over a range of loads.
use Rattle.std.specs.Prelude.{ℤ, pos, ◌+ℤ◌}
use Rattle.xt_model.specs.Tables.{TableParts}
use Rattle.xt_meaning.specs.Lookup.{Span, span_of, value_in, least_of, greatest_of, steps_between}

-- the least value over every whole load from c0 to c1
abbrev pub row_least : TableParts → Span → ℤ → ℤ → ℤ
row_least t s c0 c1 = least_of (λ j. value_in t s (span_of t.loads (c0 +ℤ pos j))) (steps_between c0 c1)

-- the greatest value over every whole load from c0 to c1
abbrev pub row_greatest : TableParts → Span → ℤ → ℤ → ℤ
row_greatest t s c0 c1 = greatest_of (λ j. value_in t s (span_of t.loads (c0 +ℤ pos j))) (steps_between c0 c1)
