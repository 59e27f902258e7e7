-- The product is the exact one, since a number of a table and a distance are small.
use Rattle.std.proofs.Common.{◌^◌, sym, ◌∙◌, subst, ℤ, pos, neg_ℤ, ◌*ℤ◌, ◌≤ℤ◌, arith, to_z-of_z}
use Rattle.std.proofs.lemmas.Int.{ints}
use Rattle.table_box.proofs.Widths.{product_back, product_most, product_least}
use Rattle.table_box.proofs.values.scaled.Goals as goal

most : (v d : ℤ) → v ≤ℤ pos (2 ^ 40) → pos 0 ≤ℤ d → d ≤ℤ pos (2 ^ 41) → (v *ℤ d) ≤ℤ pos (2 ^ 81)
most v d h p q = product_most (2 ^ 40) (2 ^ 41) v d h p q

least : (v d : ℤ) → neg_ℤ (pos (2 ^ 40)) ≤ℤ v → pos 0 ≤ℤ d → d ≤ℤ pos (2 ^ 41) → neg_ℤ (pos (2 ^ 81)) ≤ℤ (v *ℤ d)
least v d h p q = product_least (2 ^ 40) (2 ^ 41) v d h p q

pub returns-clause-value : goal.returns-clause-value
returns-clause-value c =
    let v = c.args.value in let d = c.args.distance in
    let a = most v d c.requires.value.high c.requires.low c.requires.high in
    let b = least v d c.requires.value.low c.requires.low c.requires.high in
    product_back v d _ _ (c.from.ensures ∙ to_z-of_z c.ranges.value) (c.from-2.ensures ∙ to_z-of_z c.ranges.distance)
    (omega (arith, ints)) (omega (arith, ints)) (omega (arith, ints, a, b))

pub returns-clause-low : goal.returns-clause-low
returns-clause-low c =
    let P : ℤ → Type 0 = λ n. neg_ℤ (pos (2 ^ 81)) ≤ℤ n in
    subst P (sym (returns-clause-value c)) (least c.args.value c.args.distance c.requires.value.low c.requires.low c.requires.high)

pub returns-clause-high : goal.returns-clause-high
returns-clause-high c =
    let P : ℤ → Type 0 = λ n. n ≤ℤ pos (2 ^ 81) in
    subst P (sym (returns-clause-value c)) (most c.args.value c.args.distance c.requires.value.high c.requires.low c.requires.high)
