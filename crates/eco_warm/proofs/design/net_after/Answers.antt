use Rattle.eco_warm.proofs.Allowed.{in_bounds}
use Rattle.eco_warm.proofs.design.net_after.Goals as goal

pub net_left-requires-clause-bounds : goal.net_left-requires-clause-bounds
net_left-requires-clause-bounds c = in_bounds c.args.design.now c.args.net.0 c.net.result.now c.net.ensures.whole c.net.ensures.there
