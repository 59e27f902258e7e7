use Rattle.std.proofs.Common.{arith}
use Rattle.link_wires.proofs.MarkLaws.{nets_more}
use Rattle.link_wires.proofs.parts.NodeNets.net.Goals as goal

pub invariant_of-self-2 : goal.invariant_of-self-2
invariant_of-self-2 c =
    nets_more c.self.inside.index.now c.self.inside.nets.items c.args.node c.in_ok-net.net c.self.invariant
    (omega (arith, c.if-place-len.false, c.len.ensures, c.self.inside.nets.ok.0)) c.in_ok-net.ensures
