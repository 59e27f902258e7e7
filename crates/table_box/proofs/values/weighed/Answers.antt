-- The product is the exact one, since each factor is small.
use Rattle.std.proofs.Common.{◌^◌, refl, sym, ◌∙◌, subst, ℤ, pos, neg_ℤ, ◌*ℤ◌, ◌≤ℤ◌, arith, to_z-of_z, SFits}
use Rattle.std.specs.Int.{w128}
use Rattle.std.proofs.lemmas.Int.{ints}
use Rattle.table_box.proofs.Widths.{product_back, wide_factors_back, product_most, product_least}
use Rattle.table_box.proofs.values.weighed.Goals as goal

most : (x d : ℤ) → x ≤ℤ pos (2 ^ 82) → pos 0 ≤ℤ d → d ≤ℤ pos (2 ^ 41) → (x *ℤ d) ≤ℤ pos (2 ^ 123)
most x d h p q = product_most (2 ^ 82) (2 ^ 41) x d h p q

least : (x d : ℤ) → neg_ℤ (pos (2 ^ 82)) ≤ℤ x → pos 0 ≤ℤ d → d ≤ℤ pos (2 ^ 41) → neg_ℤ (pos (2 ^ 123)) ≤ℤ (x *ℤ d)
least x d h p q = product_least (2 ^ 82) (2 ^ 41) x d h p q

fits : (x d : ℤ) → x ≤ℤ pos (2 ^ 82) → neg_ℤ (pos (2 ^ 82)) ≤ℤ x → pos 0 ≤ℤ d → d ≤ℤ pos (2 ^ 41) → SFits w128 (x *ℤ d)
fits x d h k p q = let a = most x d h p q in let b = least x d k p q in omega (arith, ints, a, b)

pub overflow_mul-result : goal.overflow_mul-result
overflow_mul-result c =
    let x = c.args.number in let d = c.args.distance in
    subst (SFits w128) (sym (wide_factors_back x d x c.from.result refl (c.from.ensures ∙ to_z-of_z c.ranges.distance) (omega (arith, ints)) (omega (arith, ints))))
    (fits x d c.requires.number_high c.requires.number_low c.requires.low c.requires.high)

pub returns-clause-value : goal.returns-clause-value
returns-clause-value c =
    let x = c.args.number in let d = c.args.distance in
    product_back x d x c.from.result refl (c.from.ensures ∙ to_z-of_z c.ranges.distance) (omega (arith, ints)) (omega (arith, ints)) (fits x d c.requires.number_high c.requires.number_low c.requires.low c.requires.high)

pub returns-clause-low : goal.returns-clause-low
returns-clause-low c =
    let P : ℤ → Type 0 = λ n. neg_ℤ (pos (2 ^ 123)) ≤ℤ n in
    subst P (sym (returns-clause-value c)) (least c.args.number c.args.distance c.requires.number_low c.requires.low c.requires.high)

pub returns-clause-high : goal.returns-clause-high
returns-clause-high c =
    let P : ℤ → Type 0 = λ n. n ≤ℤ pos (2 ^ 123) in
    subst P (sym (returns-clause-value c)) (most c.args.number c.args.distance c.requires.number_high c.requires.low c.requires.high)
