use Rattle.chaos_core.proofs.Numbered.{numbers_next}
use Rattle.chaos_core.proofs.words.push_numbers.Goals as goal

pub loop-pair-preserved : goal.loop-pair-preserved
loop-pair-preserved c = numbers_next _ _ _ _ _ _ c.loop-pair-test.true c.loop-pair.invariant c.in_ok-push_pair.ensures
