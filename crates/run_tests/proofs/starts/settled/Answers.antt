use Rattle.xt_meaning.proofs.Extremes.{extreme_is_fixpoint}
use Rattle.run_tests.proofs.Within.{fixpoint_within}
use Rattle.run_tests.proofs.starts.settled.Goals as goal

pub returns-clause-fixpoint : goal.returns-clause-fixpoint
returns-clause-fixpoint c =
    extreme_is_fixpoint c.args.way c.args.design.now c.in_ok-settled.settled.windows c.in_ok-settled.ensures.extreme

pub returns-clause-within : goal.returns-clause-within
returns-clause-within c =
    fixpoint_within c.args.design.now c.args.start.now c.in_ok-settled.settled.windows c.in_ok-lists.ensures.sound (c.in_ok-lists.ensures.ordered.1.0, c.in_ok-lists.ensures.ordered.1.1) c.requires.within
    (extreme_is_fixpoint c.args.way c.args.design.now c.in_ok-settled.settled.windows c.in_ok-settled.ensures.extreme)
