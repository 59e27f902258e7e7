use Rattle.xt_model.proofs.LevelTurns.{greatest_raised, greatest_stays}
use Rattle.xt_model.proofs.order.greatest.Goals as goal
use Rattle.xt_model.proofs.order.greatest.Goals.{then-level-greatest, else-level-greatest}

pub loop-level-preserved : goal.loop-level-preserved
loop-level-preserved c =
    elim c.if-level-greatest.branch [
      | then-level-greatest w ↦ greatest_raised _ c.loop-level.level-index _ _ c.loop-level-test.true c.loop-level.invariant w.greatest-is w.if-level-greatest.true
      | else-level-greatest w ↦ greatest_stays _ c.loop-level.level-index _ _ c.loop-level-test.true c.loop-level.invariant w.greatest-is w.if-level-greatest.false
    ]
