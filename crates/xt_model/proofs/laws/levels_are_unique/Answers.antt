use Rattle.xt_model.proofs.LevelLaws.{levels_are_one}
use Rattle.xt_model.proofs.laws.levels_are_unique.Goals as goal

pub returns : goal.returns
returns c = levels_are_one
