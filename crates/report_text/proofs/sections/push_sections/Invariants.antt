use Rattle.std.proofs.Common.{take}
use Rattle.report_text.specs.Report.{Appends, AreSections}
use Rattle.report_text.proofs.sections.push_sections.Given as goal

abbrev pub invariant-loop-section : goal.invariant-loop-section
invariant-loop-section l =
    Appends (AreSections (take l.section-index l.sections) l.design l.low l.high) l.initial.out.items l.out.items
