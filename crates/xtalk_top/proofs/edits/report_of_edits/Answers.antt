use Rattle.std.proofs.Common.{inr}
use Rattle.std.proofs.lemmas.Result.{IfErr-weaker, IfOk-weaker}
use Rattle.report_kind.specs.declared.kind.ReportKind.TheVariants.{All}
use Rattle.call_meaning.specs.Outcome.{DesignMeans, prints}
use Rattle.call_meaning.specs.Eco.{EditsMean, LinesMean, lines_of}
use Rattle.call_meaning.proofs.EditSteps.{limit_stops}
use Rattle.call_meaning.proofs.Lifts.{lift_stop}
use Rattle.call_meaning.proofs.Within.{keeps_within}
use Rattle.xtalk_top.proofs.edits.report_of_edits.Goals as goal

pub returns-in-Err-clause-stop : goal.returns-in-Err-clause-stop
returns-in-Err-clause-stop g c = limit_stops c.args.design (LinesMean c.args.file.now (lines_of c.args.text.now) 0 c.args.design) c.in-Err.stop c.in-Err.ensures.stop

pub after_edits-requires-clause-top : goal.after_edits-requires-clause-top
after_edits-requires-clause-top g c = c.in-Ok.ensures.top

pub returns-clause-ok : goal.returns-clause-ok
returns-clause-ok g c =
    IfOk-weaker c.report_within-report.result _ _ (λ text h. inr (keeps_within c.args.design c.in-Ok.top c.in-Ok.ensures.top, c.in_ok-design.ensures.leads (prints text.items) h)) c.report_within-report.ensures.ok

pub returns-clause-stop : goal.returns-clause-stop
returns-clause-stop g c =
    let meant = EditsMean c.args.file.now c.args.text.now c.args.design in
    IfErr-weaker c.report_within-report.result _ _ (λ s h. lift_stop (DesignMeans All c.in_ok-design.design) meant (λ _. ⊥) (λ _. ⊥) s
    (λ o m. inr (keeps_within c.args.design c.in-Ok.top c.in-Ok.ensures.top, c.in_ok-design.ensures.leads o m)) (λ _ r. r) h) c.report_within-report.ensures.stop
