use Rattle.std.proofs.Common.{length}
use Rattle.hier_flatten.proofs.TableLaws.{IsPart}
use Rattle.hier_flatten.proofs.wires.pins_by_name.Given as goal

abbrev pub invariant-pins : goal.invariant-pins
invariant-pins l = IsPart l.table l.rest l.pins

abbrev pub decreases-pins : goal.decreases-pins
decreases-pins l = length l.rest
