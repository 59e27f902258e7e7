use Rattle.std.proofs.Common.{refl, map}
use Rattle.std.proofs.lemmas.Option.{slice_get-get_or}
use Rattle.text_lines.specs.Lines.{line_text, text_of}
use Rattle.report_text.specs.Paths.{step_line}
use Rattle.aggressor_report.proofs.Turns.{turn, turns_end}
use Rattle.report_text.proofs.paths.push_steps.Goals as goal

pub loop-step-preserved : goal.loop-step-preserved
loop-step-preserved c =
    let d = c.args.design.now in
    turn (λ _ steps. text_of (map (step_line d) steps)) (λ _ s. line_text (step_line d s)) (λ _ s more. refl)
    c.args.steps.now c.loop-step.step-index _ _ _ _
    (slice_get-get_or c.args.steps.now c.loop-step.step-index _ c.loop-step-test.true) c.in_ok-push_step.ensures c.loop-step.invariant

pub returns : goal.returns
returns c =
    turns_end (λ _ steps. text_of (map (step_line c.args.design.now) steps)) (λ _. refl)
    c.args.steps.now c.loop-step.step-index _ _ c.loop-step-test.false c.loop-step.invariant
