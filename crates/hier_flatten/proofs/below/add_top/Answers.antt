use Rattle.hier_flatten.proofs.BelowLaws.{top_more}
use Rattle.hier_flatten.proofs.below.add_top.Goals as goal

pub loop-number-preserved : goal.loop-number-preserved
loop-number-preserved c =
    top_more c.args.nets.now c.loop-number.number c.args.growing.now c.loop-number.growing c.add_top_net.new.growing _ c.get.ensures
    c.in_ok-add_top_net.ensures c.loop-number.invariant
