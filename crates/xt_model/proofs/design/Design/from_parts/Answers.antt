use Rattle.xt_model.proofs.LevelLaws.{no_loop}
use Rattle.xt_model.proofs.design.Design.from_parts.Goals as goal

pub returns-clause-acyclic : goal.returns-clause-acyclic
returns-clause-acyclic c = λ path l. no_loop _ _ path (rw c.as_slice-nets.ensures at (c.in_ok-levels.ensures.levels)) l
