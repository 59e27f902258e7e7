use Rattle.std.proofs.Common.{pos, ◌*ℤ◌, ◌≡◌, to_z, of_z, to_z-of_z, arith}
use Rattle.std.specs.Int.{w128}
use Rattle.std.proofs.lemmas.Int.{ints}
use Rattle.glitch_noise.proofs.Parts.{millionths_low, millionths_high}
use Rattle.glitch_noise.proofs.peaks.millionths.Goals as goal

pub returns-clause-low : goal.returns-clause-low
returns-clause-low c =
    let r = c.requires in
    let x : to_z w128 (of_z w128 (pos 1000000 *ℤ to_z w128 (of_z w128 c.args.part))) ≡ pos 1000000 *ℤ c.args.part = omega (arith, ints, r.some, r.part, r.small) in
    let y = to_z-of_z c.ranges.whole in
    let is = rw (x, y) at c.div_euclid.ensures in
    let low = millionths_low c.args.part c.args.whole r.some r.part in
    let high = millionths_high c.args.part c.args.whole r.some r.part in
    omega (arith, ints, is, low, high)

pub returns-clause-high : goal.returns-clause-high
returns-clause-high c =
    let r = c.requires in
    let x : to_z w128 (of_z w128 (pos 1000000 *ℤ to_z w128 (of_z w128 c.args.part))) ≡ pos 1000000 *ℤ c.args.part = omega (arith, ints, r.some, r.part, r.small) in
    let y = to_z-of_z c.ranges.whole in
    let is = rw (x, y) at c.div_euclid.ensures in
    let low = millionths_low c.args.part c.args.whole r.some r.part in
    let high = millionths_high c.args.part c.args.whole r.some r.part in
    omega (arith, ints, is, low, high)
