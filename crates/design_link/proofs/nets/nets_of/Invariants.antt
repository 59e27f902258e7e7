use Rattle.std.proofs.Common.{length, reverse}
use Rattle.design_link.proofs.MadeLaws.{AreMadeBefore}
use Rattle.design_link.proofs.nets.nets_of.Given as goal

abbrev pub invariant-nets : goal.invariant-nets
invariant-nets l =
    AreMadeBefore l.fn.circuit.items l.fn.wires.items l.nets.items (reverse l.circuit.items) (reverse l.wires.items)
    (length (reverse l.circuit.items)) (length (reverse l.wires.items))

abbrev pub decreases-nets : goal.decreases-nets
decreases-nets l = length (reverse l.circuit.items)
