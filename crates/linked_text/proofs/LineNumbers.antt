-- The numbers of lines.
use Rattle.std.proofs.Common.{◌≡◌, ℕ, ◌+◌, List, ◌++◌, eqb, cond, arith}
use Rattle.std.proofs.lemmas.List.Sums.{sum_by-append}
use Rattle.linked_text.specs.Meaning.{line_number, newlines}

pub line_of_rest : (front rest : List ℕ) → line_number (front ++ rest) (newlines rest) ≡ 1 + newlines front
line_of_rest front rest =
    let both : newlines (front ++ rest) ≡ newlines front + newlines rest = sum_by-append (λ b. cond (eqb b 10) 1 0) front rest in
    rw both (omega arith)
