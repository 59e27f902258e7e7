use Rattle.std.proofs.Common.{◌≡◌, ◌∙◌, ap, arith}
use Rattle.std.proofs.lemmas.Int.{ints}
use Rattle.xt_model.specs.Sound.{coupling_sum}
use Rattle.sound_parts.proofs.coupling.is_within_greatest_load.Goals as goal

pub returns : goal.returns
returns c =
    let e : c.coupling_sum-sum.result ≡ coupling_sum c.args.net.now.couplings = c.coupling_sum-sum.ensures.value ∙ ap coupling_sum c.as_slice.ensures in
    (λ t. grind (arith, ints), λ t. grind (arith, ints))
