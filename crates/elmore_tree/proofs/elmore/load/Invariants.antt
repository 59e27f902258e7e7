use Rattle.std.proofs.Common.{◌≡◌, take}
use Rattle.elmore_tree.specs.Trees.{ground_sum}
use Rattle.elmore_tree.proofs.elmore.load.Given as goal

abbrev pub invariant-loop-ground : goal.invariant-loop-ground
invariant-loop-ground l = l.load ≡ ground_sum (take l.ground-index l.tree.ground)
