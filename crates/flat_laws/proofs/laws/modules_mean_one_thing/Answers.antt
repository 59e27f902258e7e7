use Rattle.hier_flatten.proofs.MeaningLaws.{one_outcome}
use Rattle.flat_laws.proofs.laws.modules_mean_one_thing.Goals as goal

pub returns : goal.returns
returns c = one_outcome
