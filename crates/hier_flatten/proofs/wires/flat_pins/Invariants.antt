use Rattle.std.proofs.Common.{◌≡◌, ◌++◌, length}
use Rattle.hier_flatten.specs.Flat.{flat_pins}
use Rattle.hier_flatten.proofs.wires.flat_pins.Given as goal

abbrev pub invariant-pins : goal.invariant-pins
invariant-pins l = l.connected.items ++ flat_pins l.flat l.nets l.meant l.rest ≡ flat_pins l.flat l.nets l.meant l.pins

abbrev pub decreases-pins : goal.decreases-pins
decreases-pins l = length l.rest
