use Rattle.net_eval.proofs.Rooms.{ready_net}
use Rattle.net_eval.proofs.operator.eval_widest_grouped.Goals as goal

pub invariant_of-evaluation : goal.invariant_of-evaluation
invariant_of-evaluation g c = ready_net _ _ _ c.args.net.0 c.net.result.now c.requires.groups c.net.ensures.whole c.net.ensures.there c.requires.words c.requires.room
