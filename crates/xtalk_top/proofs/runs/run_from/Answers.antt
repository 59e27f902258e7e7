use Rattle.std.proofs.Common.{◌≤◌, ◌∙◌, sym, subst}
use Rattle.std.specs.Prelude.{IfOk}
use Rattle.std.proofs.lemmas.Result.{IfOk-weaker}
use Rattle.xtalk_top.specs.declared.runs.Turns.{Turns}
use Rattle.xtalk_top.specs.Runs.{most_rounds, IsEndOf}
use Rattle.xtalk_top.proofs.Ends.{ends}
use Rattle.xtalk_top.proofs.runs.run_from.Goals as goal

pub returns-in-InThreads : goal.returns-in-InThreads
returns-in-InThreads g c =
    subst (λ (t : Turns). IfOk c.run_in_threads.result (IsEndOf c.args.direction c.args.design.now t c.args.start.now)) (sym c.in-InThreads.is) c.run_in_threads.ensures

pub returns-in-Picked : goal.returns-in-Picked
returns-in-Picked g c =
    let r = c.settle_picked.result in
    ends r _ _ _ _ c.settle_picked.ensures.extreme (IfOk-weaker r _ _ (λ settled h e. let other = sym c.in-Picked.is ∙ e in absurd cc) c.settle_picked.ensures.extreme)
    (IfOk-weaker r _ _ (λ settled h bound b. subst (λ (t : Turns). settled.rounds ≤ most_rounds t bound) (sym c.in-Picked.is) (h bound b)) c.settle_picked.ensures.few)

pub returns-in-Some : goal.returns-in-Some
returns-in-Some g c =
    let r = c.settle_dirty_among.result in
    ends r _ _ _ _ c.settle_dirty_among.ensures.extreme (IfOk-weaker r _ _ (λ settled h e. let other = sym c.in-ByMarks.is ∙ e in absurd cc) c.settle_dirty_among.ensures.extreme)
    (IfOk-weaker r _ _ (λ settled h bound b. subst (λ (t : Turns). settled.rounds ≤ most_rounds t bound) (sym c.in-ByMarks.is) (h bound b)) c.settle_dirty_among.ensures.few)

pub returns-in-None : goal.returns-in-None
returns-in-None g c =
    let r = c.settle_dirty_from.result in
    ends r _ _ _ _ c.settle_dirty_from.ensures.extreme (IfOk-weaker r _ _ (λ settled h e. let other = sym c.in-ByMarks.is ∙ e in absurd cc) c.settle_dirty_from.ensures.extreme)
    (IfOk-weaker r _ _ (λ settled h bound b. subst (λ (t : Turns). settled.rounds ≤ most_rounds t bound) (sym c.in-ByMarks.is) (h bound b)) c.settle_dirty_from.ensures.few)
