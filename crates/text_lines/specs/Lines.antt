-- Texts as lists of lines, and lines as lists of fields.
use Rattle.std.specs.Prelude.{ℕ, List, [], ◌∷◌, ◌++◌}
use Rattle.std.specs.List.{flat_map}

-- a line is a list of fields
abbrev pub Line : Type 0
Line = List (List ℕ)

-- the fields with one space between any two, and a newline behind the last
abbrev pub line_text : Line → List ℕ
line_text [] = 10 ∷ []
line_text (f ∷ []) = f ++ 10 ∷ []
line_text (f ∷ g ∷ more) = f ++ 32 ∷ line_text (g ∷ more)

-- one line after another
abbrev pub text_of : List Line → List ℕ
text_of lines = flat_map line_text lines
