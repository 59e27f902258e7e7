use Rattle.std.proofs.Common.{ℕ, drop, ap, ◌∙◌}
use Rattle.xt_number.proofs.Powers.{zeros_dropped}
use Rattle.xt_number.proofs.power.skip_zeros.Goals as goal

pub returns : goal.returns
returns c =
    c.split_at.ensures.back ∙ (ap (λ (n : ℕ). drop n c.args.digits.now) c.count_zeros.ensures.count ∙ zeros_dropped c.args.digits.now)
