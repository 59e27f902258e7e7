use Rattle.xt_model.specs.declared.edge.Edge.TheVariants.{Rise, Fall}
use Rattle.chaos_core.proofs.answers.meet_alike.Goals as goal

pub meets_alike-requires-clause-within : goal.meets_alike-requires-clause-within
meets_alike-requires-clause-within c = c.args.moved.now.within Rise

pub meets_alike-requires-then-meets_alike-clause-within : goal.meets_alike-requires-then-meets_alike-clause-within
meets_alike-requires-then-meets_alike-clause-within c = c.args.moved.now.within Fall
