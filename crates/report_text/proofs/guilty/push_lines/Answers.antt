use Rattle.std.proofs.Common.{refl, map}
use Rattle.text_lines.specs.Lines.{text_of}
use Rattle.aggressor_report.proofs.Turns.{turns_end}
use Rattle.report_text.specs.Report.{guilty_line}
use Rattle.report_text.proofs.Pieces.{entries_turn}
use Rattle.report_text.proofs.guilty.push_lines.Goals as goal

pub loop-entry-preserved : goal.loop-entry-preserved
loop-entry-preserved c =
    entries_turn c.args.design.now c.args.entries.now c.loop-entry.entry-index _ _ _ _ c.loop-entry-test.true c.in_ok-push_line.ensures c.loop-entry.invariant

pub returns : goal.returns
returns c =
    turns_end (λ _ entries. text_of (map (guilty_line c.args.design.now) entries)) (λ _. refl)
    c.args.entries.now c.loop-entry.entry-index _ _ c.loop-entry-test.false c.loop-entry.invariant
