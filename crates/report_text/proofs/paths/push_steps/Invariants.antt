use Rattle.std.proofs.Common.{◌≡◌, ◌++◌, map, drop}
use Rattle.text_lines.specs.Lines.{text_of}
use Rattle.report_text.specs.Paths.{step_line}
use Rattle.report_text.proofs.paths.push_steps.Given as goal

abbrev pub invariant-loop-step : goal.invariant-loop-step
invariant-loop-step l =
    l.out.items ++ text_of (map (step_line l.design) (drop l.step-index l.steps)) ≡ l.initial.out.items ++ text_of (map (step_line l.design) l.steps)
