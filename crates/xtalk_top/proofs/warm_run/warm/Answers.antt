use Rattle.std.proofs.Common.{refl}
use Rattle.std.proofs.lemmas.Result.{IfOk-weaker, err_from_is_err_and}
use Rattle.call_meaning.proofs.EditSteps.{both_ok}
use Rattle.xtalk_top.proofs.warm_run.warm.Goals as goal

pub returns-in_err-low-clause-least : goal.returns-in_err-low-clause-least
returns-in_err-low-clause-least g c = rw (err_from_is_err_and c.from_residual.result c.from_residual.ensures.1).1 tt

pub returns-in_err-low-clause-greatest : goal.returns-in_err-low-clause-greatest
returns-in_err-low-clause-greatest g c = rw (err_from_is_err_and c.from_residual.result c.from_residual.ensures.1).1 tt

pub returns-in_err-low-clause-low_closed : goal.returns-in_err-low-clause-low_closed
returns-in_err-low-clause-low_closed g c = rw (err_from_is_err_and c.from_residual.result c.from_residual.ensures.1).1 tt

pub returns-in_err-low-clause-high_closed : goal.returns-in_err-low-clause-high_closed
returns-in_err-low-clause-high_closed g c = rw (err_from_is_err_and c.from_residual.result c.from_residual.ensures.1).1 tt

pub returns-in_err-low-clause-few : goal.returns-in_err-low-clause-few
returns-in_err-low-clause-few g c = rw (err_from_is_err_and c.from_residual.result c.from_residual.ensures.1).1 tt

pub returns-in_err-lists-clause-least : goal.returns-in_err-lists-clause-least
returns-in_err-lists-clause-least g c = rw (err_from_is_err_and c.from_residual-in_err-lists.result c.from_residual-in_err-lists.ensures.1).1 tt

pub returns-in_err-lists-clause-greatest : goal.returns-in_err-lists-clause-greatest
returns-in_err-lists-clause-greatest g c = rw (err_from_is_err_and c.from_residual-in_err-lists.result c.from_residual-in_err-lists.ensures.1).1 tt

pub returns-in_err-lists-clause-low_closed : goal.returns-in_err-lists-clause-low_closed
returns-in_err-lists-clause-low_closed g c = rw (err_from_is_err_and c.from_residual-in_err-lists.result c.from_residual-in_err-lists.ensures.1).1 tt

pub returns-in_err-lists-clause-high_closed : goal.returns-in_err-lists-clause-high_closed
returns-in_err-lists-clause-high_closed g c = rw (err_from_is_err_and c.from_residual-in_err-lists.result c.from_residual-in_err-lists.ensures.1).1 tt

pub returns-in_err-lists-clause-few : goal.returns-in_err-lists-clause-few
returns-in_err-lists-clause-few g c = rw (err_from_is_err_and c.from_residual-in_err-lists.result c.from_residual-in_err-lists.ensures.1).1 tt

pub returns-clause-least : goal.returns-clause-least
returns-clause-least g c = IfOk-weaker c.both_from.result _ _ (λ both end. end.extreme) c.both_from.ensures.least

pub returns-clause-greatest : goal.returns-clause-greatest
returns-clause-greatest g c = IfOk-weaker c.both_from.result _ _ (λ both end. end.extreme) c.both_from.ensures.greatest

pub returns-clause-low_closed : goal.returns-clause-low_closed
returns-clause-low_closed g c = rw c.in_ok-low.ensures.low at (IfOk-weaker c.both_from.result _ _ (λ both end. end.closed refl) c.both_from.ensures.least)

pub returns-clause-high_closed : goal.returns-clause-high_closed
returns-clause-high_closed g c = rw c.in_ok-low.ensures.high at (IfOk-weaker c.both_from.result _ _ (λ both end. end.closed refl) c.both_from.ensures.greatest)

pub returns-clause-few : goal.returns-clause-few
returns-clause-few g c = both_ok c.both_from.result _ _ _ (λ both least greatest bound b. (least.few bound b, greatest.few bound b)) c.both_from.ensures.least c.both_from.ensures.greatest
