use Rattle.std.proofs.Common.{rules, w64, ap}
use Rattle.std.proofs.lemmas.Int.{to_z-of_z}
use mir.Val.{SFits}
use Rattle.xt_number.specs.Thousandths.{thousandths}
use Rattle.report_text.proofs.Lines.{field_same}
use Rattle.text_lines.proofs.Pieces.{field_then}
use Rattle.std.proofs.lemmas.Result.{on_ok_weaker}
use Rattle.report_text.proofs.fields.push_quad.Goals as goal

pub returns : goal.returns
returns c =
    let q = c.args.quad.now in
    let tlo : SFits w64 q.tlo = search rules in
    let thi : SFits w64 q.thi = search rules in
    let slo : SFits w64 q.slo = search rules in
    let shi : SFits w64 q.shi = search rules in
    on_ok_weaker c.push_time-4.result (λ last.
    field_then _ _ _ _ _ _ _ (ap thousandths (to_z-of_z w64 q.tlo tlo)) c.in_ok-push_time.ensures
    (field_then _ _ _ _ _ _ _ (ap thousandths (to_z-of_z w64 q.thi thi)) c.in_ok-push_time-2.ensures
    (field_then _ _ _ _ _ _ _ (ap thousandths (to_z-of_z w64 q.slo slo)) c.in_ok-push_time-3.ensures
    (field_same _ _ _ _ _ (ap thousandths (to_z-of_z w64 q.shi shi)) last)))) c.push_time-4.ensures
