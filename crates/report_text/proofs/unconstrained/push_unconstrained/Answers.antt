use Rattle.std.proofs.Common.{refl}
use Rattle.std.proofs.lemmas.Option.{slice_get_read}
use Rattle.text_lines.specs.Lines.{text_of}
use Rattle.report_text.specs.Report.{unconstrained_lines}
use Rattle.report_text.specs.Pieces.{unconstrained_text}
use Rattle.aggressor_report.proofs.Turns.{turn, turns_end}
use Rattle.report_text.proofs.Pieces.{unconstrained_next}
use Rattle.report_text.proofs.unconstrained.push_unconstrained.Goals as goal

pub loop-net-preserved : goal.loop-net-preserved
loop-net-preserved c =
    turn (λ _ nets. text_of (unconstrained_lines nets)) (λ _ net. unconstrained_text net) unconstrained_next
    c.args.nets.now c.loop-net.net-index c.net-item.result _ _ _
    (slice_get_read _ _ _ _ refl c.loop-net-test.true c.net-item.is) c.in_ok-push_net.ensures c.loop-net.invariant

pub returns : goal.returns
returns c =
    turns_end (λ _ nets. text_of (unconstrained_lines nets)) (λ _. refl)
    c.args.nets.now c.loop-net.net-index _ _ c.loop-net-test.false c.loop-net.invariant
