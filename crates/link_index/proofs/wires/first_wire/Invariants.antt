use Rattle.std.proofs.Common.{◌≡◌, length}
use Rattle.name_numbers.specs.Names.{value_of}
use Rattle.link_index.proofs.wires.first_wire.Given as goal

abbrev pub invariant-pins : goal.invariant-pins
invariant-pins l = value_of l.name l.rest ≡ value_of l.name l.pins

abbrev pub decreases-pins : goal.decreases-pins
decreases-pins l = length l.rest
