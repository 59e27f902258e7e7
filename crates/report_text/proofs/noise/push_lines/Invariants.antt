use Rattle.std.proofs.Common.{◌≡◌, ◌++◌, drop, map}
use Rattle.text_lines.specs.Lines.{text_of}
use Rattle.report_text.specs.Report.{peak_line}
use Rattle.report_text.proofs.noise.push_lines.Given as goal

abbrev pub invariant-loop-peak : goal.invariant-loop-peak
invariant-loop-peak l =
    l.out.items ++ text_of (map (peak_line l.design) (drop l.peak-index l.peaks))
    ≡ l.initial.out.items ++ text_of (map (peak_line l.design) l.peaks)
