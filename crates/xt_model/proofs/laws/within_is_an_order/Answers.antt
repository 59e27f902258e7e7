use Rattle.xt_model.proofs.WindowLaws.{within_refl, within_trans, within_both, bottom_within}
use Rattle.xt_model.proofs.laws.within_is_an_order.Goals as goal

pub returns : goal.returns
returns c = record { reflexive = within_refl; transitive = within_trans; antisymmetric = within_both; least = bottom_within }
