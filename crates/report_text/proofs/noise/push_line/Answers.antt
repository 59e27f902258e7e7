use Rattle.std.proofs.Common.{refl, rules, w64, ap}
use Rattle.std.proofs.lemmas.Int.{to_z-of_z}
use mir.Val.{SFits}
use Rattle.xt_number.specs.Thousandths.{thousandths}
use Rattle.text_lines.proofs.Pieces.{field_then, field_last}
use Rattle.report_text.proofs.Pieces.{name_is}
use Rattle.std.proofs.lemmas.Result.{on_ok_weaker}
use Rattle.report_text.proofs.noise.push_line.Goals as goal

pub returns : goal.returns
returns c =
    let d = c.args.design.now in
    let p = c.args.peak.now in
    let fits : SFits w64 p.moment = search rules in
    on_ok_weaker c.push_time.result (λ last.
    field_then _ _ _ _ _ _ _ refl c.in_ok-push_word.ensures
    (field_then _ _ _ _ _ _ _ (name_is d.nets p.victim.0 _ _ c.net-victim.ensures.there c.bytes.ensures.value) c.in_ok-push_word-2.ensures
    (field_then _ _ _ _ _ _ _ c.edge_word.ensures c.in_ok-push_word-3.ensures
    (field_then _ _ _ _ _ _ _ refl c.in_ok-push_word-4.ensures
    (field_then _ _ _ _ _ _ _ refl c.in_ok-push_number.ensures
    (field_then _ _ _ _ _ _ _ refl c.in_ok-push_word-5.ensures
    (field_last _ _ _ _ _ (ap thousandths (to_z-of_z w64 p.moment fits)) last))))))) c.push_time.ensures
