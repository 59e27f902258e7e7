-- What was appended, field by field.
use Rattle.std.proofs.Common.{◌≡◌, ℕ, List, [], ◌∷◌, ◌++◌, append_assoc, refl}
use Rattle.text_lines.specs.Fields.{field}

-- a field was appended, and then more
pub field_then : (o p q a b more : List ℕ) (m : ℕ) → a ≡ b → p ≡ o ++ field a m → q ≡ p ++ more → q ≡ o ++ (b ++ m ∷ more)
unfolding field
field_then o p q a b more m w e f = rw (f, e, w) (simp append_assoc)

-- the last field was appended
pub field_last : (o p a b : List ℕ) (m : ℕ) → a ≡ b → p ≡ o ++ field a m → p ≡ o ++ (b ++ m ∷ [])
unfolding field
field_last o p a b m w e = rw (e, w) refl
