-- What was appended, piece by piece.
use Rattle.std.proofs.Common.{◌≡◌, ℕ, List, ◌++◌, append_assoc}
use Rattle.text_lines.specs.Fields.{field}

-- one text was appended, and then another
pub piece_then : (o p q a more : List ℕ) → p ≡ o ++ a → q ≡ p ++ more → q ≡ o ++ (a ++ more)
piece_then o p q a more e f = rw (f, e) (simp append_assoc)

-- the field that was appended, under another name
pub field_same : (o p a b : List ℕ) (m : ℕ) → a ≡ b → p ≡ o ++ field a m → p ≡ o ++ field b m
field_same o p a b m w e = rw (← w) e
