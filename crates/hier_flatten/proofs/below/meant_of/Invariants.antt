use Rattle.std.proofs.Common.{◌≡◌, ◌++◌, length}
use Rattle.hier_flatten.specs.Flat.{meant_from}
use Rattle.hier_flatten.proofs.below.meant_of.Given as goal

abbrev pub invariant-wires : goal.invariant-wires
invariant-wires l = l.meant.items ++ meant_from l.next l.rest ≡ meant_from l.fn.next l.wires

abbrev pub decreases-wires : goal.decreases-wires
decreases-wires l = length l.rest
