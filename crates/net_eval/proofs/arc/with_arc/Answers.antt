use Rattle.xt_meaning.proofs.Starts.{join_in_range}
use Rattle.net_eval.proofs.arc.with_arc.Goals as goal

pub returns-clause-range : goal.returns-clause-range
returns-clause-range c = rw c.join.ensures (join_in_range c.args.quad c.contribution.result c.requires.range c.contribution.ensures.range)
