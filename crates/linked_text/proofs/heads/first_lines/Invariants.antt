use Rattle.std.proofs.Common.{◌≡◌, ◌+◌, ◌≤◌, ◌++◌, List, ℕ}
use Rattle.linked_text.specs.Meaning.{newlines}
use Rattle.linked_text.proofs.heads.first_lines.Given as goal

abbrev pub invariant-lines : goal.invariant-lines
invariant-lines l = (front : List ℕ) × (l.bytes ≡ front ++ l.rest) × (l.count ≤ newlines front + l.left)

abbrev pub decreases-lines : goal.decreases-lines
decreases-lines l = l.left
