-- The sum is the exact one, since both products are small.
use Rattle.std.proofs.Common.{◌≡◌, ◌^◌, sym, ◌∙◌, subst, ℤ, pos, neg_ℤ, ◌+ℤ◌, ◌≤ℤ◌, arith, to_z, of_z, w64, SFits}
use Rattle.std.specs.Int.{w128}
use Rattle.std.proofs.lemmas.Int.{ints}
use Rattle.table_box.proofs.Widths.{product_named, wide_sum_fits, wide_sum_back, sum_same}
use Rattle.table_box.proofs.values.column_at.Goals as goal

low_wide : (a : ℤ) → neg_ℤ (pos (2 ^ 81)) ≤ℤ a → neg_ℤ (pos (2 ^ 123)) ≤ℤ a
low_wide a h = omega (arith, ints)

high_wide : (a : ℤ) → a ≤ℤ pos (2 ^ 81) → a ≤ℤ pos (2 ^ 123)
high_wide a h = omega (arith, ints)

sum_low : (a b : ℤ) → neg_ℤ (pos (2 ^ 81)) ≤ℤ a → neg_ℤ (pos (2 ^ 81)) ≤ℤ b → neg_ℤ (pos (2 ^ 82)) ≤ℤ (a +ℤ b)
sum_low a b p q = omega (arith, ints)

sum_high : (a b : ℤ) → a ≤ℤ pos (2 ^ 81) → b ≤ℤ pos (2 ^ 81) → (a +ℤ b) ≤ℤ pos (2 ^ 82)
sum_high a b p q = omega (arith, ints)

pub overflow_add-result : goal.overflow_add-result
overflow_add-result c = let e = c.scaled.ensures in let f = c.scaled-2.ensures in
    wide_sum_fits c.scaled.result c.scaled-2.result (low_wide _ e.low) (high_wide _ e.high) (low_wide _ f.low) (high_wide _ f.high)

exact : (a b : ℤ) → neg_ℤ (pos (2 ^ 81)) ≤ℤ a → a ≤ℤ pos (2 ^ 81) → neg_ℤ (pos (2 ^ 81)) ≤ℤ b → b ≤ℤ pos (2 ^ 81)
    → to_z w128 (of_z w128 (to_z w128 (of_z w128 a) +ℤ to_z w128 (of_z w128 b))) ≡ a +ℤ b
exact a b p q r s = wide_sum_back a b (low_wide a p) (high_wide a q) (low_wide b r) (high_wide b s)

pub returns-clause-value : goal.returns-clause-value
returns-clause-value c =
    let e = c.scaled.ensures in let f = c.scaled-2.ensures in
    let below = c.args.slew.now.below in let above = c.args.slew.now.above in
    let fits_below : SFits w64 below = omega (arith, ints, c.requires.slew) in
    let fits_above : SFits w64 above = omega (arith, ints, c.requires.slew) in
    let first = product_named c.number_at.result _ below c.number_at.ensures.value (omega (arith, ints, c.number_at.ensures.number)) fits_below in
    let second = product_named c.number_at-2.result _ above c.number_at-2.ensures.value (omega (arith, ints, c.number_at-2.ensures.number)) fits_above in
    exact c.scaled.result c.scaled-2.result e.low e.high f.low f.high
    ∙ sum_same _ _ _ _ (e.value ∙ first) (f.value ∙ second)

pub returns-clause-low : goal.returns-clause-low
returns-clause-low c = let e = c.scaled.ensures in let f = c.scaled-2.ensures in
    let P : ℤ → Type 0 = λ n. neg_ℤ (pos (2 ^ 82)) ≤ℤ n in
    subst P (sym (exact c.scaled.result c.scaled-2.result e.low e.high f.low f.high)) (sum_low _ _ e.low f.low)

pub returns-clause-high : goal.returns-clause-high
returns-clause-high c = let e = c.scaled.ensures in let f = c.scaled-2.ensures in
    let P : ℤ → Type 0 = λ n. n ≤ℤ pos (2 ^ 82) in
    subst P (sym (exact c.scaled.result c.scaled-2.result e.low e.high f.low f.high)) (sum_high _ _ e.high f.high)
