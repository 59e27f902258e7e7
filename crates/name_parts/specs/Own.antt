-- Names that are apart.
use Rattle.std.specs.Prelude.{◌≡◌, ℕ, List, Some}
use Rattle.std.specs.List.{slice_get}
use Rattle.name_numbers.specs.Names.{Text, number_of}

-- each name has the number of its own place alone: no two are the same
pub record HaveOwnNumbers (names : List Text) : Type 0 where
  pub each : (k : ℕ) (name : Text) → slice_get names k ≡ Some name → number_of name names ≡ k
