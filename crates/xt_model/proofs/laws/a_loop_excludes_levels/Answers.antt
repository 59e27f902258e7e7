use Rattle.xt_model.proofs.LevelLaws.{no_loop}
use Rattle.xt_model.proofs.laws.a_loop_excludes_levels.Goals as goal

pub returns : goal.returns
returns c = no_loop
