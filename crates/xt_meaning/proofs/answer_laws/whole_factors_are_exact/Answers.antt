use Rattle.xt_meaning.proofs.Whole.{whole_loads, whole_wires}
use Rattle.xt_meaning.proofs.answer_laws.whole_factors_are_exact.Goals as goal

pub returns : goal.returns
returns c = record { loads = λ ms net. whole_loads ms net; wires = λ ms s. whole_wires ms s }
