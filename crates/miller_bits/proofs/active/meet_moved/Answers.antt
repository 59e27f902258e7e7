use Rattle.std.proofs.Common.{◌≡◌, ◌-ℤ◌, to_z, of_z, w64, arith}
use Rattle.std.specs.Int.{w128}
use Rattle.std.proofs.lemmas.Int.{ints}
use Rattle.miller_bits.proofs.Periods.{stored_test}
use Rattle.miller_bits.proofs.active.meet_moved.Goals as goal

pub returns : goal.returns
returns c =
    let low = c.whole_periods-least.ensures in
    let high = c.whole_periods-greatest.ensures in
    let t : to_z w64 (of_z w64 c.args.period) ≡ c.args.period = omega (arith, ints) in
    let x : to_z w128 (of_z w128 c.distance.result) ≡ (c.args.b_to -ℤ c.args.a_from) = omega (arith, ints, c.distance.ensures.value) in
    let y : to_z w128 (of_z w128 c.distance-2.result) ≡ (c.args.a_to -ℤ c.args.b_from) = omega (arith, ints, c.distance-2.ensures.value) in
    stored_test _ _ _ _ low.low low.high high.low high.high (rw (t, x) at low.value) (rw (t, y) at high.value)
