use Rattle.std.proofs.Common.{rules, ◌≡◌, ℕ, List, cond, eqb, map, take, ap, ◌∙◌, arith}
use Rattle.std.specs.Int.RustNames.{count_ones}
use Rattle.std.specs.List.{count_by}
use Rattle.std.specs.Simd.Lanes.{mask_l}
use Rattle.std.proofs.lemmas.List.Sums.{count_by-le-length, sum_by-take-drop, sum_by-take-le}
use Rattle.std.proofs.lemmas.Simd.{ones-mask_l}
use Rattle.linked_text.proofs.scan.count_of.Goals as goal

ones_in : (mark : ℕ) (bytes : List ℕ) (marks : ℕ) → marks ≡ mask_l (map (λ b. eqb b mark) (take 16 bytes)) → count_ones marks ≡ count_by (λ b. eqb b mark) (take 16 bytes)
ones_in mark bytes marks e = ap count_ones e ∙ ones-mask_l (λ b. eqb b mark) (take 16 bytes)

pub overflow_add-count : goal.overflow_add-count
overflow_add-count c =
    let here = ones_in c.args.mark c.lanes.rest.now c.marked.result c.marked.ensures in
    let part = sum_by-take-le (λ b. cond (eqb b c.args.mark) 1 0) c.lanes.rest.now 16 in
    let few = count_by-le-length (λ b. eqb b c.args.mark) c.args.bytes.now in
    let old = c.lanes.invariant in
    search rules

pub lanes-preserved : goal.lanes-preserved
lanes-preserved c =
    let here = ones_in c.args.mark c.lanes.rest.now c.marked.result c.marked.ensures in
    let parts = sum_by-take-drop (λ b. cond (eqb b c.args.mark) 1 0) c.lanes.rest.now 16 in
    rw c.split_at.ensures.back (omega (arith, c.lanes.invariant, here, parts))
