use Rattle.std.proofs.Common.{◌∙◌, ap, refl, pos, ◌+ℤ◌, ◌*ℤ◌, w64, SFits, to_z-of_z, rules, arith}
use Rattle.std.specs.Int.{int_div_euclid, w128}
use Rattle.std.proofs.lemmas.Int.{ints}
use Rattle.xt_model.specs.Sound.{coupling_sum}
use Rattle.xt_model.specs.Assign.{assigned}
use Rattle.glitch_noise.proofs.Heights.{top_is, some_peak, no_peak}
use Rattle.glitch_noise.proofs.peaks.push_peak.Goals as goal

pub overflow_cast-best : goal.overflow_cast-best
overflow_cast-best c =
    let n = c.net-net.ensures in
    let t = top_is c.args.design.now (assigned c.args.high.now) c.args.victim.0 c.net-net.result.now c.args.edge c.best_of-best.result.sum c.best_of-best.result.moment _ n.whole n.sound n.there c.in_ok-fill.ensures c.best_of-best.ensures in
    let a = t.natural in
    let b = t.small in
    omega (arith, ints, a, b)

pub ppm-requires-clause-part : goal.ppm-requires-clause-part
ppm-requires-clause-part c =
    let n = c.net-net.ensures in
    let t = top_is c.args.design.now (assigned c.args.high.now) c.args.victim.0 c.net-net.result.now c.args.edge c.best_of-best.result.sum c.best_of-best.result.moment _ n.whole n.sound n.there c.in_ok-fill.ensures c.best_of-best.ensures in
    let a = t.natural in
    let b = t.small in
    let p = t.part in
    omega (arith, ints, a, b, p)

pub returns-in_ok-push : goal.returns-in_ok-push
returns-in_ok-push c =
    let n = c.net-net.ensures in
    let t = top_is c.args.design.now (assigned c.args.high.now) c.args.victim.0 c.net-net.result.now c.args.edge c.best_of-best.result.sum c.best_of-best.result.moment _ n.whole n.sound n.there c.in_ok-fill.ensures c.best_of-best.ensures in
    let a = t.natural in
    let b = t.small in
    let moment : SFits w64 c.best_of-best.result.moment = search rules in
    let sum : SFits w128 c.best_of-best.result.sum = search rules in
    let net = c.net-net.result.now in
    some_peak c.args.design.now (assigned c.args.high.now) c.args.victim.0 c.net-net.result.now c.args.edge c.best_of-best.result.sum c.best_of-best.result.moment n.there t c.args.victim _ _ _
    (grind (arith, ints)) refl refl refl (omega (arith, ints, a, b)) (to_z-of_z moment)
    (c.ppm.ensures ∙ ap (λ s. int_div_euclid (pos 1000000 *ℤ s) (net.load +ℤ coupling_sum net.couplings)) (to_z-of_z sum)) c.in_ok-push.ensures.items

pub returns-else-best-gt0 : goal.returns-else-best-gt0
returns-else-best-gt0 c =
    let n = c.net-net.ensures in
    let t = top_is c.args.design.now (assigned c.args.high.now) c.args.victim.0 c.net-net.result.now c.args.edge c.best_of-best.result.sum c.best_of-best.result.moment _ n.whole n.sound n.there c.in_ok-fill.ensures c.best_of-best.ensures in
    let a = t.natural in
    let b = t.small in
    no_peak c.args.design.now (assigned c.args.high.now) c.args.victim.0 c.net-net.result.now c.args.edge c.best_of-best.result.sum c.best_of-best.result.moment n.there t c.args.peaks.now.items (grind (arith, ints))
