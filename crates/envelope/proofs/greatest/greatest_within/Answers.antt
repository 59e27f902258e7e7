use Rattle.std.proofs.Common.{◌+◌, arith}
use Rattle.envelope.proofs.Wires.{delay_kept, nets_joined, one_net}
use Rattle.envelope.proofs.greatest.greatest_within.Goals as goal

pub loop-net-preserved : goal.loop-net-preserved
loop-net-preserved c =
    let d = c.args.design.now in
    let n = c.loop-net.net in
    let own = one_net d n c.greatest_of_net.result (omega arith) c.greatest_of_net.ensures in
    let kept = delay_kept c.greatest_of_net.result own.delay in
    nets_joined d c.args.from n (n + 1) _ c.greatest_of_net.result c.max-greatest.result c.loop-net.invariant own (rw kept at c.max-greatest.ensures.value)
