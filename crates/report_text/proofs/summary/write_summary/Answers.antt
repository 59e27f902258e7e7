use Rattle.std.proofs.Common.{ap, length}
use Rattle.aggressor_report.specs.Guilt.{guilty}
use Rattle.report_text.specs.Summary.{live_edges}
use Rattle.report_text.proofs.Widths.{tally_all}
use Rattle.report_text.proofs.summary.write_summary.Goals as goal

pub returns : goal.returns
returns c =
    let d = c.args.design.now in
    let low = c.args.low.now in
    let high = c.args.high.now in
    c.summary_of.ensures (live_edges low high d.nets) (length (guilty d low high)) (tally_all d low high _ _ (ap length c.nets.ensures.value) c.tally_of-tally.ensures.is)
