use Rattle.std.proofs.Common.{◌≡◌, ◌++◌, drop, map}
use Rattle.text_lines.specs.Lines.{text_of}
use Rattle.report_text.specs.Report.{guilty_line}
use Rattle.report_text.proofs.guilty.push_lines.Given as goal

abbrev pub invariant-loop-entry : goal.invariant-loop-entry
invariant-loop-entry l =
    l.out.items ++ text_of (map (guilty_line l.design) (drop l.entry-index l.entries))
    ≡ l.initial.out.items ++ text_of (map (guilty_line l.design) l.entries)
