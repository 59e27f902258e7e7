use Rattle.std.proofs.Common.{◌≡◌, ℕ, ◌≤◌, ◌<◌, ◌^◌, subst, ◌∙◌, arith}
use Rattle.std.specs.Prelude.{MatchOption, unsigned_abs}
use Rattle.std.proofs.lemmas.Int.{ints}
use Rattle.xt_number.proofs.Values.{rounded_up, rounded_down}
use Rattle.xt_number.proofs.fixed.rounded_size.Goals as goal

pub returns-then-power-lt0 : goal.returns-then-power-lt0
returns-then-power-lt0 c =
    let P : ℕ → Type 0 = λ v. MatchOption c.within.result (2 ^ 40 < v) (λ r. (r ≡ v) × (r ≤ 2 ^ 40)) in
    let places : c.unsigned_abs-places.result ≡ unsigned_abs c.args.power = omega (arith, ints) in
    subst P (c.divided.ensures ∙ rounded_down c.args.mantissa c.unsigned_abs-places.result c.args.power (omega (arith, ints)) places) c.within.ensures

pub returns-else-power-lt0 : goal.returns-else-power-lt0
returns-else-power-lt0 c =
    let P : ℕ → Type 0 = λ v. MatchOption c.multiplied.result (2 ^ 40 < v) (λ r. (r ≡ v) × (r ≤ 2 ^ 40)) in
    let places : c.unsigned_abs-places.result ≡ unsigned_abs c.args.power = omega (arith, ints) in
    subst P (rounded_up c.args.mantissa c.unsigned_abs-places.result c.args.power (omega (arith, ints)) places) c.multiplied.ensures
