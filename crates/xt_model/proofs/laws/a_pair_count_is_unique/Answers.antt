use Rattle.xt_model.proofs.PairLaws.{pair_counts_are_one}
use Rattle.xt_model.proofs.laws.a_pair_count_is_unique.Goals as goal

pub returns : goal.returns
returns c = pair_counts_are_one
