use Rattle.envelope.proofs.Wires.{delay_kept, nets_joined}
use Rattle.envelope.proofs.greatest.+fn-greatest_by-join+arg3+greatest_by.Goals as goal

pub returns : goal.returns
returns g t c =
    let both = c.join-left.ensures in
    let a = delay_kept c.join-left.result.0 both.first.delay in
    let b = delay_kept c.join-left.result.1 both.second.delay in
    nets_joined c.args.design.now c.args.from _ c.args.to c.join-left.result.0 c.join-left.result.1 c.max.result both.first both.second (rw (a, b) at c.max.ensures.value)
