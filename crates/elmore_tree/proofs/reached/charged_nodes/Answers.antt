use Rattle.std.proofs.Common.{arith}
use Rattle.std.proofs.lemmas.Grind.{common_steps}
use Rattle.elmore_tree.proofs.reached.charged_nodes.Goals as goal

pub loop-ground-preserved : goal.loop-ground-preserved
loop-ground-preserved c = grind (arith, common_steps)
