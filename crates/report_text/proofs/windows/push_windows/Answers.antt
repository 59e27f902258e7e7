use Rattle.std.proofs.Common.{refl}
use Rattle.std.proofs.lemmas.Option.{slice_get_read}
use Rattle.text_lines.specs.Lines.{text_of}
use Rattle.report_text.specs.Report.{window_lines}
use Rattle.report_text.specs.Pieces.{windows_text}
use Rattle.aggressor_report.proofs.Turns.{turn, turns_end}
use Rattle.report_text.proofs.Pieces.{windows_next}
use Rattle.report_text.proofs.windows.push_windows.Goals as goal

pub loop-number-preserved : goal.loop-number-preserved
loop-number-preserved c =
    let low = c.args.low.now in
    let high = c.args.high.now in
    turn (λ n nets. text_of (window_lines low high n nets)) (λ n net. windows_text low high n net) (windows_next low high)
    c.args.nets.now c.loop-number.number c.index-nets-number.result _ _ _
    (slice_get_read _ _ _ _ refl c.loop-number-test.true c.index-nets-number.is) c.in_ok-push_net.ensures c.loop-number.invariant

pub returns : goal.returns
returns c =
    turns_end (λ n nets. text_of (window_lines c.args.low.now c.args.high.now n nets)) (λ _. refl)
    c.args.nets.now c.loop-number.number _ _ c.loop-number-test.false c.loop-number.invariant
