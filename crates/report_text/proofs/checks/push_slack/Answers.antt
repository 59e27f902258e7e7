use Rattle.std.proofs.Common.{refl, ap, sym, ◌∙◌, ◌++◌, rules, w64}
use Rattle.std.proofs.lemmas.Int.{to_z-of_z}
use mir.Val.{SFits}
use Rattle.xt_number.specs.Thousandths.{thousandths}
use Rattle.text_lines.proofs.Pieces.{field_then, field_last}
use Rattle.report_text.proofs.CheckLines.{slacks_line_is}
use Rattle.std.proofs.lemmas.Result.{on_ok_weaker}
use Rattle.report_text.proofs.checks.push_slack.Goals as goal

pub returns : goal.returns
returns c =
    let s = c.args.slack.now in
    let greatest : SFits w64 s.greatest = search rules in
    let least : SFits w64 s.least = search rules in
    on_ok_weaker c.push_time-2.result (λ last.
    field_then _ _ _ _ _ _ _ refl c.in_ok-push_word.ensures
    (field_then _ _ _ _ _ _ _ refl c.in_ok-push_word-2.ensures
    (field_then _ _ _ _ _ _ _ c.edge_word.ensures c.in_ok-push_word-3.ensures
    (field_then _ _ _ _ _ _ _ c.check_word.ensures c.in_ok-push_word-4.ensures
    (field_then _ _ _ _ _ _ _ (ap thousandths (to_z-of_z w64 s.greatest greatest)) c.in_ok-push_time.ensures
    (field_last _ _ _ _ _ (ap thousandths (to_z-of_z w64 s.least least)) last)))))
    ∙ ap (λ text. c.args.out.now.items ++ text) (sym (slacks_line_is c.args.name.now c.args.hold s c.if-slack.false))) c.push_time-2.ensures
