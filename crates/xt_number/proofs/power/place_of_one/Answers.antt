use Rattle.std.proofs.Common.{List, ℕ, ap, ◌∙◌}
use Rattle.xt_number.specs.Value.{place_at}
use Rattle.xt_number.proofs.Powers.{place_law}
use Rattle.xt_number.proofs.power.place_of_one.Goals as goal

pub returns : goal.returns
returns c =
    place_law c.args.digits.now c.zeros_behind_one.result c.requires (c.zeros_behind_one.ensures ∙ ap (λ (ds : List ℕ). place_at ds) c.skip_zeros.ensures)
