use Rattle.std.proofs.Common.{ap}
use Rattle.net_eval.proofs.Steady.{windows_read, windows_within, steady_iff}
use Rattle.net_eval.proofs.Rooms.{reads_fit, ready_net}
use Rattle.net_eval.proofs.closing.is_steady.Goals as goal

pub invariant_of-evaluation : goal.invariant_of-evaluation
invariant_of-evaluation c =
    let d = c.args.design.now in
    let v = c.args.windows.now in
    ready_net _ _ _ c.args.net c.net.result.now c.requires.groups c.net.ensures.whole c.net.ensures.there (windows_read d v c.args.net c.requires.count c.net.ensures.whole c.requires.net)
    (reads_fit d _ _ c.args.net c.net.ensures.whole (windows_within d v c.args.net c.requires.within))

pub returns : goal.returns
returns c =
    steady_iff c.args.design.now c.args.windows.now c.args.net c.pair-2.result c.pair.result _ c.net.ensures.whole c.pair-2.ensures.value
    (ap (λ p. p.rise) c.pair.ensures.value) (ap (λ p. p.fall) c.pair.ensures.value) c.same.ensures
