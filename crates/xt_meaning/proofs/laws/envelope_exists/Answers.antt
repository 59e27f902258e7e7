use Rattle.xt_meaning.proofs.Existence.{widest_exists}
use Rattle.xt_meaning.proofs.laws.envelope_exists.Goals as goal

pub returns : goal.returns
returns c = λ d levels s l. widest_exists d levels s l
