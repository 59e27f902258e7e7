use Rattle.std.proofs.Common.{◌≡◌, ◌++◌, drop}
use Rattle.text_lines.specs.Lines.{text_of}
use Rattle.report_text.specs.Checks.{check_lines}
use Rattle.report_text.proofs.checks.push_checks.Given as goal

abbrev pub invariant-loop-slack : goal.invariant-loop-slack
invariant-loop-slack l =
    l.out.items ++ text_of (check_lines l.design (drop l.slack-index l.slacks)) ≡ l.initial.out.items ++ text_of (check_lines l.design l.slacks)
