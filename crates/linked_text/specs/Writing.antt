-- The pieces in which a linked text is written.
use Rattle.std.specs.Prelude.{ℕ, List, ◌∷◌, ℤ}
use Rattle.std.specs.Fmt.{signed_decimal}

-- a number behind a space
abbrev pub spaced : ℤ → List ℕ
spaced x = 32 ∷ signed_decimal x
