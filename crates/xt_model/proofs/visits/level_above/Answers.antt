use Rattle.std.proofs.Common.{arith}
use Rattle.xt_model.proofs.LevelTurns.{input_raises, input_is_less, raised_within, level_is}
use Rattle.xt_model.proofs.visits.level_above.Goals as goal
use Rattle.xt_model.proofs.visits.level_above.Goals.{then-level-greatest, else-level-greatest}

pub loop-arc-preserved : goal.loop-arc-preserved
loop-arc-preserved c =
    elim c.if-level-greatest.branch [
      | then-level-greatest w ↦ record {
        is = input_raises _ _ c.loop-arc.arc-index _ _ _ c.loop-arc-test.true c.loop-arc.invariant.is w.greatest-is w.if-level-greatest.true;
        most = raised_within _ _ c.requires.most _ _ w.greatest-is;
      }
      | else-level-greatest w ↦ record {
        is = input_is_less _ _ c.loop-arc.arc-index _ _ _ c.loop-arc-test.true c.loop-arc.invariant.is w.greatest-is w.if-level-greatest.false;
        most = omega (arith, c.loop-arc.invariant.most, w.greatest-is);
      }
    ]

pub returns : goal.returns
returns c = level_is _ _ _ _ c.loop-arc-test.false c.loop-arc.invariant.is
