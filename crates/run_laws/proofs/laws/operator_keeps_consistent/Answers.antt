use Rattle.run_laws.proofs.Hulls.{operator_keeps}
use Rattle.run_laws.proofs.laws.operator_keeps_consistent.Goals as goal

pub returns : goal.returns
returns c = λ d W xs s c l. operator_keeps d W xs s c l
