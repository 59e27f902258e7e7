use Rattle.xt_model.proofs.WindowLaws.{quad_in_range}
use Rattle.xt_model.proofs.bounds.WindowsBounds.bound.Goals as goal

pub side_at-requires-clause-range : goal.side_at-requires-clause-range
side_at-requires-clause-range c = rw c.at.ensures (quad_in_range c.pair-pair.result c.edge_at.result c.pair-pair.ensures.in_range)
