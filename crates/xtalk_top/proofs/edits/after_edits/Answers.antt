use Rattle.std.proofs.Common.{arith}
use Rattle.std.proofs.lemmas.Result.{err_from_is_err_and}
use Rattle.call_meaning.specs.Eco.{Ends, GoesOn, LinesMean, lines_of}
use Rattle.call_meaning.proofs.EditSteps.{after_levelled, after_sound, lines_lead, lines_stop}
use Rattle.call_meaning.proofs.Lifts.{lift_stop}
use Rattle.call_meaning.proofs.Within.{keeps_within}
use Rattle.xtalk_top.proofs.edits.after_edits.Goals as goal

pub lines-init : goal.lines-init
lines-init c = record {
  leads = λ o h. h;
  sound = c.requires.sound;
  levelled = c.requires.levelled;
  top = c.requires.top;
  few = omega arith;
}

pub returns-in_err-line-clause-stop : goal.returns-in_err-line-clause-stop
returns-in_err-line-clause-stop c =
    let failed = err_from_is_err_and c.from_residual.result c.from_residual.ensures.1 in
    let file = c.args.file.now in
    let meant = LinesMean file (lines_of c.lines.rest.now) c.lines.count c.lines.design in
    rw failed.1 (rw failed.2 (lift_stop meant (LinesMean file (lines_of c.args.text.now) 0 c.args.design) (λ _. ⊥) (λ _. ⊥) c.in_err-line.field-0.0
    c.lines.invariant.leads (λ _ r. r) (c.in_err-line.ensures.stop c.lines.design)))

pub returns-in_err-next-clause-stop : goal.returns-in_err-next-clause-stop
returns-in_err-next-clause-stop c =
    let failed = err_from_is_err_and c.from_residual-in_err-next.result c.from_residual-in_err-next.ensures.1 in
    let file = c.args.file.now in
    let lines = lines_of c.lines.rest.now in
    let meant = LinesMean file lines c.lines.count c.lines.design in
    let goes : GoesOn file lines c.lines.count c.in-Some.line.now (lines_of c.in-Some.more.now) = rw c.in-Some.is at c.in_ok-line.ensures.means in
    rw failed.1 (rw failed.2 (lift_stop meant (LinesMean file (lines_of c.args.text.now) 0 c.args.design) (λ _. ⊥) (λ _. ⊥) c.in_err-next.field-0.0
    c.lines.invariant.leads (λ _ r. r)
    (lines_stop file lines c.lines.count c.in-Some.line.now (lines_of c.in-Some.more.now) goes c.lines.design c.in_err-next.field-0.0 c.in_err-next.ensures.stop)))

pub lines-smaller : goal.lines-smaller
lines-smaller c = rw c.in-Some.is at c.in_ok-line.ensures.shorter

pub lines-preserved : goal.lines-preserved
lines-preserved c =
    let file = c.args.file.now in
    let lines = lines_of c.lines.rest.now in
    let h = c.lines.invariant in
    let next = c.in_ok-next.next in
    let line = c.in-Some.line.now in
    let after = c.in_ok-next.ensures.after in
    let goes : GoesOn file lines c.lines.count line (lines_of c.in-Some.more.now) = rw c.in-Some.is at c.in_ok-line.ensures.means in
    let few = rw c.in-Some.is at c.in_ok-line.ensures.few in
    record {
      leads = λ o m.
          h.leads o (lines_lead file lines c.lines.count line (lines_of c.in-Some.more.now) goes c.lines.design next o after (keeps_within next c.in_ok-next.next_top c.in_ok-next.ensures.top) m);
      sound = after_sound c.lines.design line next h.sound after;
      levelled = after_levelled c.lines.design line next h.sound h.levelled after;
      top = c.in_ok-next.ensures.top;
      few = omega (arith, few);
    }

pub returns-clause-leads : goal.returns-clause-leads
returns-clause-leads c =
    let ends : Ends c.args.file.now (lines_of c.lines.rest.now) c.lines.count = rw c.in_default.is at c.in_ok-line.ensures.means in
    λ o m. c.lines.invariant.leads o (ends c.lines.design o m)

pub returns-clause-sound : goal.returns-clause-sound
returns-clause-sound c = c.lines.invariant.sound

pub returns-clause-levelled : goal.returns-clause-levelled
returns-clause-levelled c = c.lines.invariant.levelled
