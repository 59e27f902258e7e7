use Rattle.std.proofs.Common.{◌∙◌, arith}
use Rattle.std.proofs.lemmas.Int.{ints}
use Rattle.xt_meaning.proofs.Order.{ordered_from_live}
use Rattle.net_eval.proofs.Contributions.{slews_ordered, slew_least, slew_greatest, contribution_is, kept_mag, kept_time, kept_slew, kept_number, kept_wire}
use Rattle.net_eval.proofs.arc.contribution.Goals as goal

pub over_slews-requires : goal.over_slews-requires
over_slews-requires c =
    let f = c.requires.fits in
    let q = c.args.input.now in
    let w0 = kept_wire c.args.wire.0 f.low (omega (arith, ints, f.ordered, f.high)) in
    let w1 = kept_wire c.args.wire.1 (omega (arith, ints, f.ordered, f.low)) f.high in
    record {
      slews = slews_ordered q.slo q.shi c.args.wire.0 c.args.wire.1 _ _
          (kept_mag _ c.slew_behind-least_slew.type_inv ∙ (rw (kept_slew q.slo f.driver.slo, w0) at c.slew_behind-least_slew.ensures))
          (kept_mag _ c.slew_behind-most_slew.type_inv ∙ (rw (kept_slew q.shi f.driver.shi, w1) at c.slew_behind-most_slew.ensures))
          (ordered_from_live q f.driver.live).slews f.ordered;
    }

pub returns-clause-value : goal.returns-clause-value
returns-clause-value c =
    let f = c.requires.fits in
    let q = c.args.input.now in let t = c.args.tables.now in
    let w0 = kept_wire c.args.wire.0 f.low (omega (arith, ints, f.ordered, f.high)) in
    let w1 = kept_wire c.args.wire.1 (omega (arith, ints, f.ordered, f.low)) f.high in
    let e = c.over_slews.ensures in
    contribution_is c.args.design.now c.args.arc.now q _ _ t.first t.second _ _ _ _ _ _ _ _ c.requires.tables.delay c.requires.tables.slew
    (kept_mag _ c.slew_behind-least_slew.type_inv ∙ (rw (kept_slew q.slo f.driver.slo, w0) at c.slew_behind-least_slew.ensures))
    (kept_mag _ c.slew_behind-most_slew.type_inv ∙ (rw (kept_slew q.shi f.driver.shi, w1) at c.slew_behind-most_slew.ensures))
    (kept_number _ e.first.least_number ∙ e.first.least)
    (kept_number _ e.first.greatest_number ∙ e.first.greatest)
    (slew_least t.second _ _ c.as_slew.result _ c.over_slews.result.1.0 (kept_mag _ c.as_slew.type_inv) c.as_slew.ensures.value (kept_number _ e.second.least_number) e.second.least)
    (slew_greatest t.second _ _ c.as_slew-2.result _ c.over_slews.result.1.1 (kept_mag _ c.as_slew-2.type_inv) c.as_slew-2.ensures.value (kept_number _ e.second.greatest_number) e.second.greatest)
    (kept_mag _ c.arrival.type_inv ∙ (rw (kept_time q.tlo f.driver.tlo, w0) at c.arrival.ensures.value))
    (kept_mag _ c.arrival-2.type_inv ∙ (rw (kept_time q.thi f.driver.thi, w1) at c.arrival-2.ensures.value))

pub returns-clause-range : goal.returns-clause-range
returns-clause-range c =
    let lo = c.arrival.ensures in
    let hi = c.arrival-2.ensures in
    let s0 = c.as_slew.ensures.slew in
    let s1 = c.as_slew-2.ensures.slew in
    record {
      tlo = record { low = omega (arith, ints, lo.low, lo.high); high = omega (arith, ints, lo.low, lo.high) };
      thi = record { low = omega (arith, ints, hi.low, hi.high); high = omega (arith, ints, hi.low, hi.high) };
      slo = record { low = omega (arith, ints, s0.least, s0.most); high = omega (arith, ints, s0.least, s0.most) };
      shi = record { low = omega (arith, ints, s1.least, s1.most); high = omega (arith, ints, s1.least, s1.most) };
    }
