use Rattle.std.proofs.Common.{◌≡◌, ℕ, ◌≤◌, ℤ, pos, ◌*ℤ◌, SFits, to_z, of_z, to_z-of_z, arith}
use Rattle.std.specs.Int.{w128}
use Rattle.std.proofs.lemmas.Int.{ints}
use Rattle.xt_model.specs.Sound.{IsProduct}
use Rattle.xt_meaning.proofs.Sums.{scaled_cap}
use Rattle.miller_bits.proofs.Sums.{scaled_natural}
use Rattle.miller_bits.proofs.wire.scaled.Goals as goal

-- a product with a factor fits 128 bits
product_fits : (f : ℕ) (x : ℤ) → f ≤ 12 → IsProduct x → SFits w128 (pos f *ℤ x)
product_fits f x few h =
    let low = scaled_natural f x h.least in
    let high = scaled_cap f x few h.least in
    omega (arith, ints, low, high, h.most)

factor_stored : (f : ℕ) (r : ℤ) → f ≤ 12 → r ≡ pos f → to_z w128 (of_z w128 r) ≡ pos f
factor_stored f r few is = omega (arith, ints, few, is)

pub overflow_mul-result : goal.overflow_mul-result
overflow_mul-result c =
    rw (factor_stored c.args.factor c.from.result c.requires.factor c.from.ensures, to_z-of_z c.ranges.coef) (product_fits c.args.factor c.args.coef c.requires.factor c.requires.coef)

pub returns-clause-value : goal.returns-clause-value
returns-clause-value c =
    rw (factor_stored c.args.factor c.from.result c.requires.factor c.from.ensures, to_z-of_z c.ranges.coef) (to_z-of_z (product_fits c.args.factor c.args.coef c.requires.factor c.requires.coef))

pub returns-clause-low : goal.returns-clause-low
returns-clause-low c = rw (returns-clause-value c) (scaled_natural c.args.factor c.args.coef c.requires.coef.least)

pub returns-clause-high : goal.returns-clause-high
returns-clause-high c =
    let high = scaled_cap c.args.factor c.args.coef c.requires.factor c.requires.coef.least in
    rw (returns-clause-value c) (omega (arith, ints, high, c.requires.coef.most))
