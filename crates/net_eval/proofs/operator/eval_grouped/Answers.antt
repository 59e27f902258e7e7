use Rattle.net_eval.proofs.Rooms.{reads_fit, ready_net}
use Rattle.net_eval.proofs.operator.eval_grouped.Goals as goal

pub invariant_of-evaluation : goal.invariant_of-evaluation
invariant_of-evaluation g c =
    ready_net _ _ _ c.args.net.0 c.net.result.now c.requires.groups c.net.ensures.whole c.net.ensures.there c.requires.words (reads_fit c.args.design.now _ _ c.args.net.0 c.net.ensures.whole c.requires.room)
