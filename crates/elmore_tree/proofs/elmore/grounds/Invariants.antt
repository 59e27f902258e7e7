use Rattle.std.proofs.Common.{◌≡◌, take, map}
use Rattle.std.specs.Int.RustNames.{unsigned_abs}
use Rattle.elmore_tree.proofs.elmore.grounds.Given as goal

abbrev pub invariant-loop-ground : goal.invariant-loop-ground
invariant-loop-ground l = l.caps.items ≡ map unsigned_abs (take l.ground-index l.tree.ground)
