use Rattle.xt_model.proofs.LoopLaws.{first_is_loop, first_is_one}
use Rattle.xt_model.proofs.laws.a_first_loop_is_unique.Goals as goal

pub returns : goal.returns
returns c = record { is_loop = first_is_loop; unique = first_is_one }
