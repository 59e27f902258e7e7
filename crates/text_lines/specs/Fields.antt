-- The fields of a line as they are written.
use Rattle.std.specs.Prelude.{ℕ, List, [], ◌∷◌, ◌++◌}

-- a field and the byte behind it
unfoldable pub field : List ℕ → ℕ → List ℕ
field bytes mark = bytes ++ mark ∷ []
