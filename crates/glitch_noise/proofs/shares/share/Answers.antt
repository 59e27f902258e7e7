use Rattle.std.proofs.Common.{ap, sym, ◌∙◌, pos, to_z-of_z, arith}
use Rattle.std.proofs.lemmas.Int.{ints}
use Rattle.xt_model.specs.declared.net.Coupling.{Coupling}
use Rattle.xt_model.specs.Assign.{assigned}
use Rattle.glitch_noise.specs.Shares.{share_of}
use Rattle.glitch_noise.proofs.Steady.{share_next, share_stored, share_room, share_end}
use Rattle.glitch_noise.proofs.Heights.{share_at}
use Rattle.glitch_noise.proofs.shares.share.Goals as goal

abbrev none : Coupling
none = record { to = record { 0 = 0 }; cap = pos 0 }

pub overflow_add-sum : goal.overflow_add-sum
overflow_add-sum c =
    let net = c.net-net.result.now in
    let n = share_next c.args.design.now c.args.victim.0 net (assigned c.args.high.now) c.args.edge _ c.as_slice-coupling-items.result.now c.loop-coupling.coupling-index none _ _
    c.net-net.ensures.sound c.as_slice-coupling-items.ensures c.loop-coupling-test.true c.part_of-sum.ensures c.loop-coupling.invariant in
    let r = share_room c.args.design.now c.args.victim.0 net (assigned c.args.high.now) c.args.edge _ c.as_slice-coupling-items.result.now _ _ c.net-net.ensures.sound c.as_slice-coupling-items.ensures n in
    omega (arith, ints, r.0, r.1)

pub loop-coupling-preserved : goal.loop-coupling-preserved
loop-coupling-preserved c =
    let net = c.net-net.result.now in
    let n = share_next c.args.design.now c.args.victim.0 net (assigned c.args.high.now) c.args.edge _ c.as_slice-coupling-items.result.now c.loop-coupling.coupling-index none _ _
    c.net-net.ensures.sound c.as_slice-coupling-items.ensures c.loop-coupling-test.true c.part_of-sum.ensures c.loop-coupling.invariant in
    let r = share_room c.args.design.now c.args.victim.0 net (assigned c.args.high.now) c.args.edge _ c.as_slice-coupling-items.result.now _ _ c.net-net.ensures.sound c.as_slice-coupling-items.ensures n in
    share_stored c.args.design.now.period (assigned c.args.high.now) c.args.edge _ c.as_slice-coupling-items.result.now _ _ _ (omega (arith, ints, r.0, r.1)) n

pub returns : goal.returns
returns c =
    let d = c.args.design.now in
    let W = assigned c.args.high.now in
    let net = c.net-net.result.now in
    share_end d.period W c.args.edge _ c.as_slice-coupling-items.result.now c.loop-coupling.coupling-index _ c.loop-coupling-test.false c.loop-coupling.invariant
    ∙ (ap (share_of d.period W c.args.edge _) c.as_slice-coupling-items.ensures
    ∙ (ap (λ t. share_of d.period W c.args.edge t net.couplings) (to_z-of_z c.ranges.moment)
    ∙ sym (share_at d W c.args.victim.0 c.args.edge net c.args.moment c.net-net.ensures.there)))
