use Rattle.std.proofs.Common.{◌≡◌, take, map}
use Rattle.std.specs.Prelude.{pos, int_lt}
use Rattle.elmore_tree.proofs.reached.charged_nodes.Given as goal

abbrev pub invariant-loop-ground : goal.invariant-loop-ground
invariant-loop-ground l = l.marks.items ≡ map (λ g. int_lt (pos 0) g) (take l.ground-index l.tree.ground)
