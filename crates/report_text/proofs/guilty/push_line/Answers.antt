use Rattle.std.proofs.Common.{◌++◌, refl, rules, w64, ap, sym, ◌∙◌}
use Rattle.std.proofs.lemmas.Int.{to_z-of_z}
use mir.Val.{SFits}
use Rattle.text_lines.specs.Lines.{line_text}
use Rattle.xt_number.specs.Thousandths.{thousandths}
use Rattle.report_text.specs.Report.{coupling_line}
use Rattle.text_lines.proofs.Pieces.{field_then, field_last}
use Rattle.report_text.proofs.Pieces.{name_is}
use Rattle.std.proofs.lemmas.Result.{on_ok_weaker}
use Rattle.report_text.proofs.guilty.push_line.Goals as goal

pub returns : goal.returns
returns c =
    let d = c.args.design.now in
    let g = c.args.entry.now in
    let k = c.coupling-coupling.result.now in
    let fits : SFits w64 k.cap = search rules in
    on_ok_weaker c.push_word-8.result (λ last.
    field_then _ _ _ _ _ _ _ refl c.in_ok-push_word.ensures
    (field_then _ _ _ _ _ _ _ (name_is d.nets g.victim.0 _ _ c.net-victim.ensures.there c.bytes.ensures.value) c.in_ok-push_word-2.ensures
    (field_then _ _ _ _ _ _ _ c.edge_word.ensures c.in_ok-push_word-3.ensures
    (field_then _ _ _ _ _ _ _ (name_is d.nets k.to.0 _ _ c.net-aggressor.ensures.there c.bytes-2.ensures.value) c.in_ok-push_word-4.ensures
    (field_then _ _ _ _ _ _ _ (ap thousandths (to_z-of_z w64 k.cap fits)) c.in_ok-push_cap.ensures
    (field_then _ _ _ _ _ _ _ refl c.in_ok-push_word-5.ensures
    (field_then _ _ _ _ _ _ _ c.mark_word.ensures c.in_ok-push_word-6.ensures
    (field_then _ _ _ _ _ _ _ refl c.in_ok-push_word-7.ensures
    (field_last _ _ _ _ _ c.mark_word-2.ensures last))))))))
    ∙ ap (λ place. c.args.out.now.items ++ line_text (coupling_line d g place)) (sym c.coupling-coupling.ensures.value)) c.push_word-8.ensures
