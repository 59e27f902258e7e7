-- The spans that the values of an attribute are.
use Rattle.std.specs.Prelude.{List, [], ◌∷◌}
use Rattle.liberty_groups.specs.declared.span.Span.{Span}
use Rattle.liberty_groups.specs.declared.values.Spans.{Spans}
use Rattle.liberty_groups.specs.declared.values.Spans.TheVariants as lists

-- none, one, or all of a list
abbrev pub spans_of : Spans → List Span
spans_of lists.None = []
spans_of (lists.One span) = span ∷ []
spans_of (lists.Many spans) = spans.value.items
