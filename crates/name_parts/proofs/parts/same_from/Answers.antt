use Rattle.std.proofs.Common.{◌∙◌, sym}
use Rattle.name_parts.proofs.PartLaws.{cut_thrice, first_differs, middle_differs, last_counts}
use Rattle.name_parts.proofs.parts.same_from.Goals as goal

pub returns-then-eq-2 : goal.returns-then-eq-2
returns-then-eq-2 c =
    let cut = cut_thrice c.args.prefix.now c.args.rest.now c.args.longer.now c.args.last.now c.split_at.result.0.now c.split_at.result.1.now
    c.split_at-2.result.0.now c.split_at-2.result.1.now c.split_at.ensures.by_index.0 c.split_at-2.ensures.by_index.0 (sym c.split_at.ensures.front_len) c.split_at-2.ensures.front_len in
    c.eq-then-eq-2.ensures ∙ sym (cut ∙ last_counts _ _ _ (sym c.eq.ensures ∙ c.if-eq.true) (sym c.eq-then-eq.ensures ∙ c.if-eq-2.true))

pub returns-else-eq-2 : goal.returns-else-eq-2
returns-else-eq-2 c =
    let cut = cut_thrice c.args.prefix.now c.args.rest.now c.args.longer.now c.args.last.now c.split_at.result.0.now c.split_at.result.1.now
    c.split_at-2.result.0.now c.split_at-2.result.1.now c.split_at.ensures.by_index.0 c.split_at-2.ensures.by_index.0 (sym c.split_at.ensures.front_len) c.split_at-2.ensures.front_len in
    c.if-eq-2.false ∙ sym (cut ∙ middle_differs _ _ _ (sym c.eq-then-eq.ensures ∙ c.if-eq-2.false))

pub returns-else-eq : goal.returns-else-eq
returns-else-eq c =
    let cut = cut_thrice c.args.prefix.now c.args.rest.now c.args.longer.now c.args.last.now c.split_at.result.0.now c.split_at.result.1.now
    c.split_at-2.result.0.now c.split_at-2.result.1.now c.split_at.ensures.by_index.0 c.split_at-2.ensures.by_index.0 (sym c.split_at.ensures.front_len) c.split_at-2.ensures.front_len in
    c.if-eq.false ∙ sym (cut ∙ first_differs _ _ (sym c.eq.ensures ∙ c.if-eq.false))
