use Rattle.std.proofs.Common.{◌≡◌, map, take}
use Rattle.hier_flatten.specs.Flat.{wire_of}
use Rattle.hier_flatten.proofs.wires.wires_of.Given as goal

abbrev pub invariant-loop-number : goal.invariant-loop-number
invariant-loop-number l = l.connected.items ≡ map (wire_of l.flat l.nets l.meant l.pins) (take l.number l.inner)
