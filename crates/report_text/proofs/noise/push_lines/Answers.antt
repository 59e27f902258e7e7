use Rattle.std.proofs.Common.{refl, map}
use Rattle.text_lines.specs.Lines.{text_of}
use Rattle.aggressor_report.proofs.Turns.{turns_end}
use Rattle.report_text.specs.Report.{peak_line}
use Rattle.report_text.proofs.Pieces.{peaks_turn}
use Rattle.report_text.proofs.noise.push_lines.Goals as goal

pub loop-peak-preserved : goal.loop-peak-preserved
loop-peak-preserved c =
    peaks_turn c.args.design.now c.args.peaks.now c.loop-peak.peak-index _ _ _ _ c.loop-peak-test.true c.in_ok-push_line.ensures c.loop-peak.invariant

pub returns : goal.returns
returns c =
    turns_end (λ _ peaks. text_of (map (peak_line c.args.design.now) peaks)) (λ _. refl)
    c.args.peaks.now c.loop-peak.peak-index _ _ c.loop-peak-test.false c.loop-peak.invariant
