use Rattle.std.proofs.Common.{◌≡◌, ap, ◌∙◌, rules, w64, arith}
use Rattle.std.proofs.lemmas.Int.{ints}
use mir.Val.{SFits}
use Rattle.xt_model.specs.Sound.{coupling_sum}
use Rattle.eco_warm.proofs.net.greatest_load.Goals as goal

pub returns : goal.returns
returns c =
    let x = c.coupling_sum.ensures in
    let value : c.coupling_sum.result ≡ coupling_sum c.args.net.now.couplings = x.value ∙ ap coupling_sum c.as_slice.ensures in
    let load : SFits w64 c.args.net.now.load = search rules in
    omega (arith, ints, c.from.ensures, x.low, x.high, value)
