use Rattle.std.proofs.Common.{refl}
use Rattle.std.proofs.lemmas.Option.{slice_get-get_or}
use Rattle.text_lines.specs.Lines.{line_text, text_of}
use Rattle.report_text.specs.Checks.{check_line, check_lines}
use Rattle.aggressor_report.proofs.Turns.{turn, turns_end}
use Rattle.report_text.proofs.checks.push_checks.Goals as goal

pub loop-slack-preserved : goal.loop-slack-preserved
loop-slack-preserved c =
    let d = c.args.design.now in
    turn (λ _ slacks. text_of (check_lines d slacks)) (λ _ s. line_text (check_line d s)) (λ _ s more. refl)
    c.args.slacks.now c.loop-slack.slack-index _ _ _ _
    (slice_get-get_or c.args.slacks.now c.loop-slack.slack-index _ c.loop-slack-test.true) c.in_ok-push_check.ensures c.loop-slack.invariant

pub returns : goal.returns
returns c =
    turns_end (λ _ slacks. text_of (check_lines c.args.design.now slacks)) (λ _. refl)
    c.args.slacks.now c.loop-slack.slack-index _ _ c.loop-slack-test.false c.loop-slack.invariant
