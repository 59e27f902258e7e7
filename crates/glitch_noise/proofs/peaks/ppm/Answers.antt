use Rattle.std.proofs.Common.{◌≡◌, ◌∙◌, ap, ◌+ℤ◌, to_z, of_z, to_z-of_z, arith}
use Rattle.std.specs.Int.{w128}
use Rattle.std.proofs.lemmas.Int.{ints}
use Rattle.xt_model.specs.Sound.{coupling_sum}
use Rattle.glitch_noise.proofs.peaks.ppm.Goals as goal

pub overflow_add-whole : goal.overflow_add-whole
overflow_add-whole c =
    let r = c.requires in
    let sum = c.coupling_sum.ensures.value ∙ ap coupling_sum c.as_slice.ensures in
    omega (arith, ints, sum, c.from.ensures, r.load.least, r.load.most, r.most_load, r.some, r.part)

pub millionths-requires-clause-some : goal.millionths-requires-clause-some
millionths-requires-clause-some c =
    let part = to_z-of_z c.ranges.part in
    omega (arith, ints, part, c.requires.some)

pub millionths-requires-clause-part : goal.millionths-requires-clause-part
millionths-requires-clause-part c =
    let r = c.requires in
    let sum = c.coupling_sum.ensures.value ∙ ap coupling_sum c.as_slice.ensures in
    omega (arith, ints, sum, c.from.ensures, r.load.least, r.load.most, r.most_load, r.some, r.part)

pub millionths-requires-clause-small : goal.millionths-requires-clause-small
millionths-requires-clause-small c =
    let r = c.requires in
    let sum = c.coupling_sum.ensures.value ∙ ap coupling_sum c.as_slice.ensures in
    omega (arith, ints, sum, c.from.ensures, r.load.least, r.load.most, r.most_load, r.some, r.part)

pub overflow_cast-result : goal.overflow_cast-result
overflow_cast-result c =
    let low = c.millionths.ensures.low in
    let high = c.millionths.ensures.high in
    (omega (arith, ints, low, high), omega (arith, ints, low, high))

pub returns : goal.returns
returns c =
    let r = c.requires in
    let sum = c.coupling_sum.ensures.value ∙ ap coupling_sum c.as_slice.ensures in
    let load = c.args.net.now.load in
    let couplings = coupling_sum c.args.net.now.couplings in
    let whole : to_z w128 (of_z w128 (to_z w128 (of_z w128 c.from.result) +ℤ to_z w128 (of_z w128 c.coupling_sum.result))) ≡ load +ℤ couplings = omega (arith, ints, sum, c.from.ensures, r.load.least, r.load.most, r.most_load, r.some, r.part) in
    let part = to_z-of_z c.ranges.part in
    let is = rw (part, whole) at c.millionths.ensures.value in
    let low = c.millionths.ensures.low in
    let high = c.millionths.ensures.high in
    omega (arith, ints, is, low, high)
