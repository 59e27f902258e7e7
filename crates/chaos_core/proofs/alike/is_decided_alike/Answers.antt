use Rattle.chaos_core.proofs.Sparing.{decided_alike}
use Rattle.chaos_core.proofs.alike.is_decided_alike.Goals as goal

pub returns-then-are_inputs_alike : goal.returns-then-are_inputs_alike
returns-then-are_inputs_alike g c = λ t.
    decided_alike c.args.design.now (g.T.TwoTimes.earlier c.args.two.now) (g.T.TwoTimes.later c.args.two.now) c.args.net.0 (c.are_inputs_alike.ensures c.if-are_inputs_alike.true) (c.is_own_alike.ensures t)
