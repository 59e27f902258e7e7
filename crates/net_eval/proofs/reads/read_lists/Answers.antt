use Rattle.net_eval.proofs.Looks.{lists_more}
use Rattle.net_eval.proofs.reads.read_lists.Goals as goal

pub loop-own-preserved : goal.loop-own-preserved
loop-own-preserved c = lists_more _ _ _ _ _ c.in_ok-read_list.ensures c.in_ok-push.ensures.items c.loop-own.invariant
