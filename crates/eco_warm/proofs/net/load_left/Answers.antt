use Rattle.std.proofs.Common.{◌≡◌, ap, ◌∙◌, arith}
use Rattle.std.proofs.lemmas.Int.{ints}
use Rattle.xt_model.specs.Sound.{coupling_sum}
use Rattle.eco_warm.proofs.net.load_left.Goals as goal

pub returns-clause-value : goal.returns-clause-value
returns-clause-value c =
    let b = c.requires.bounds.load in
    let x = c.coupling_sum.ensures in
    let y = c.coupling_sum-2.ensures in
    let v : c.coupling_sum.result ≡ coupling_sum c.args.net.now.couplings = x.value ∙ ap coupling_sum c.as_slice.ensures in
    omega (arith, ints, c.from.ensures, b.least, b.most, x.low, x.high, y.low, y.high, v, y.value)

pub returns-clause-low : goal.returns-clause-low
returns-clause-low c =
    let b = c.requires.bounds.load in
    let x = c.coupling_sum.ensures in
    let y = c.coupling_sum-2.ensures in
    omega (arith, ints, c.from.ensures, b.least, b.most, x.low, x.high, y.low, y.high)

pub returns-clause-high : goal.returns-clause-high
returns-clause-high c =
    let b = c.requires.bounds.load in
    let x = c.coupling_sum.ensures in
    let y = c.coupling_sum-2.ensures in
    omega (arith, ints, c.from.ensures, b.least, b.most, x.low, x.high, y.low, y.high)
