use Rattle.xt_model.proofs.OrderLaws.{range_more}
use Rattle.xt_model.proofs.order.numbers_below.Goals as goal

pub loop-number-preserved : goal.loop-number-preserved
loop-number-preserved c = rw (c.in_ok-push.ensures.items, c.loop-number.invariant) (range_more c.loop-number.number)
