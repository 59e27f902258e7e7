-- The range of the values of a table over a box.
use Rattle.std.specs.Prelude.{◌≡◌, ℤ}
use Rattle.xt_model.specs.Tables.{TableParts, IsTableNumber}
use Rattle.xt_meaning.specs.Lookup.{Box, greatest_over, least_over, table_value}

-- two numbers are the least and the greatest value of a table over a box
pub record IsRange (t : TableParts) (b : Box) (range : ℤ × ℤ) : Type 0 where
  pub least : range.0 ≡ least_over (table_value t) b
  pub greatest : range.1 ≡ greatest_over (table_value t) b
  pub least_number : IsTableNumber range.0
  pub greatest_number : IsTableNumber range.1
