use Rattle.std.proofs.Common.{◌≡◌, ◌++◌, drop}
use Rattle.text_lines.specs.Lines.{text_of}
use Rattle.report_text.specs.Report.{unconstrained_lines}
use Rattle.report_text.proofs.unconstrained.push_unconstrained.Given as goal

abbrev pub invariant-loop-net : goal.invariant-loop-net
invariant-loop-net l =
    l.out.items ++ text_of (unconstrained_lines (drop l.net-index l.nets)) ≡ l.initial.out.items ++ text_of (unconstrained_lines l.nets)
