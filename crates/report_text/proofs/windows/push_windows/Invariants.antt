use Rattle.std.proofs.Common.{◌≡◌, ◌++◌, drop}
use Rattle.text_lines.specs.Lines.{text_of}
use Rattle.report_text.specs.Report.{window_lines}
use Rattle.report_text.proofs.windows.push_windows.Given as goal

abbrev pub invariant-loop-number : goal.invariant-loop-number
invariant-loop-number l =
    l.out.items ++ text_of (window_lines l.low l.high l.number (drop l.number l.nets)) ≡ l.initial.out.items ++ text_of (window_lines l.low l.high 0 l.nets)
