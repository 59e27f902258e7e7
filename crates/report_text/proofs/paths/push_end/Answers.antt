use Rattle.std.proofs.Common.{refl, ap, rules, w64}
use Rattle.std.proofs.lemmas.Int.{to_z-of_z}
use mir.Val.{SFits}
use Rattle.xt_number.specs.Thousandths.{thousandths}
use Rattle.text_lines.proofs.Pieces.{field_then, field_last}
use Rattle.std.proofs.lemmas.Result.{on_ok_weaker}
use Rattle.report_text.proofs.paths.push_end.Goals as goal

pub returns : goal.returns
returns c =
    let wire : SFits w64 c.args.wire = search rules in
    on_ok_weaker c.push_time.result (λ last.
    field_then _ _ _ _ _ _ _ refl c.in_ok-push_word.ensures
    (field_then _ _ _ _ _ _ _ refl c.in_ok-push_word-2.ensures
    (field_last _ _ _ _ _ (ap thousandths (to_z-of_z w64 c.args.wire wire)) last))) c.push_time.ensures
