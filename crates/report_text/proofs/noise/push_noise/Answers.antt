use Rattle.std.proofs.Common.{◌++◌, map, refl, ap, ◌∙◌}
use Rattle.text_lines.specs.Lines.{text_of}
use Rattle.report_text.specs.Report.{peak_line}
use Rattle.report_text.proofs.noise.push_noise.Goals as goal

pub returns : goal.returns
returns c =
    let d = c.args.design.now in
    let peaks = c.in_ok-peaks.peaks.items in (
      map (peak_line d) peaks,
      (peaks, c.in_ok-peaks.ensures.peaks, refl),
      c.in_ok-push_lines.ensures ∙ ap (λ ps. c.args.out.now.items ++ text_of (map (peak_line d) ps)) c.deref.ensures.value,
    )
