use Rattle.std.proofs.Common.{◌≡◌, ◌<◌, ◌≤◌, ◌+◌, ◌-◌, ℕ, List, [], ◌∷◌, ◌++◌, append_assoc, cond, eqb, sym, ap, ◌∙◌, arith}
use Rattle.std.proofs.lemmas.List.Sums.{sum_by-append}
use Rattle.linked_text.specs.Meaning.{newlines}
use Rattle.linked_text.proofs.Cuts.{cut_takes}
use Rattle.linked_text.proofs.heads.first_lines.Goals as goal

-- one line more is in front
line_more : (bytes front rest line after : List ℕ) (count left : ℕ) → bytes ≡ front ++ rest → rest ≡ line ++ 10 ∷ after
    → count ≤ newlines front + left → 0 < left → (x : List ℕ) × (bytes ≡ x ++ after) × (count ≤ newlines x + (left - 1))
line_more bytes front rest line after count left is split enough some =
    let ended : List ℕ = line ++ 10 ∷ [] in
    let joined : (front ++ ended) ++ after ≡ front ++ (line ++ 10 ∷ after) = append_assoc front ended after ∙ ap (λ t. front ++ t) (append_assoc line (10 ∷ []) after) in
    let here = sum_by-append (λ b. cond (eqb b 10) 1 0) front ended in
    let end = sum_by-append (λ b. cond (eqb b 10) 1 0) line (10 ∷ []) in
    (front ++ ended, is ∙ ap (λ t. front ++ t) split ∙ sym joined, omega (arith, enough, some, here, end))

pub lines-preserved : goal.lines-preserved
lines-preserved c =
    let old = c.lines.invariant in
    let split = cut_takes 10 c.lines.rest.now c.in-Some.field-0-0.now c.in-Some.after.now c.in-Some.ensures in
    line_more c.args.bytes.now old.0 c.lines.rest.now c.in-Some.field-0-0.now c.in-Some.after.now c.args.count c.lines.left old.1 split old.2 c.lines-test.true
