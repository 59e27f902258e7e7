-- What names are hashed from.
use mathlib.Core.Path.{ap}
use Rattle.std.specs.Prelude.{◌≡◌, ℕ, List, [], ◌∷◌, IsTrue}
use Rattle.std.specs.Cmp.Lexicographic.{bytes_decides}
use Rattle.std.specs.Str.{bytes_eq}

-- bytes eight at a time, and at the end those that are left, which are fewer
unfoldable pub eights : List ℕ → List (List ℕ)
eights (a ∷ b ∷ c ∷ d ∷ e ∷ f ∷ g ∷ h ∷ more) = (a ∷ b ∷ c ∷ d ∷ e ∷ f ∷ g ∷ h ∷ []) ∷ eights more
eights rest = rest ∷ []

-- equal names are hashed from the same
pub same_eights : (a b : List ℕ) → IsTrue (bytes_eq a b) → eights a ≡ eights b
same_eights a b h = ap eights ((bytes_decides a b).0 h)
