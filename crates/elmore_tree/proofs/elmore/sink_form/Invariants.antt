use Rattle.std.proofs.Common.{◌≡◌, take, map}
use Rattle.std.specs.Prelude.{pos}
use Rattle.elmore_tree.specs.Sums.{coefficient_of}
use Rattle.elmore_tree.specs.Walks.{path_of}
use Rattle.elmore_tree.proofs.elmore.sink_form.Given as goal

abbrev pub invariant-loop-tap : goal.invariant-loop-tap
invariant-loop-tap l = l.coefs.items ≡ map (λ tap. pos (coefficient_of l.tree (path_of l.steps) l.sink tap)) (take l.tap-index l.tree.taps)
