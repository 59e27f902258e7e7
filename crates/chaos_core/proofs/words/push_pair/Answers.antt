use Rattle.chaos_core.proofs.Numbered.{first_more, all_eight}
use Rattle.chaos_core.proofs.words.push_pair.Goals as goal

pub loop-place-preserved : goal.loop-place-preserved
loop-place-preserved c = first_more _ _ _ _ _ _ c.loop-place.invariant c.number_in.ensures c.in_ok-push.ensures.items

pub returns : goal.returns
returns c = all_eight _ _ _ _ c.loop-place-test.false c.loop-place.auto.place-end c.loop-place.invariant
