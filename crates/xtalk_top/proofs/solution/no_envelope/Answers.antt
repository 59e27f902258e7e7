use Rattle.envelope.proofs.Labels.{passed_there}
use Rattle.xtalk_top.proofs.solution.no_envelope.Goals as goal

pub net-requires : goal.net-requires
net-requires c = passed_there c.args.design.now c.in-Limit.net.0 c.in-Limit.what c.in-Limit.value (rw c.in-Limit.is at c.requires)
