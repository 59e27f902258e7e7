use Rattle.run_laws.proofs.Short.{chain_is_short}
use Rattle.run_laws.proofs.laws.chains_are_short.Goals as goal

pub returns : goal.returns
returns c = λ way d ls pairs s count sound levels are chain open_each. chain_is_short way d ls pairs sound levels are s count chain open_each
