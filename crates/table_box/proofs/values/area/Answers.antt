-- The product is the exact one, since each width is small.
use Rattle.std.proofs.Common.{◌^◌, sym, ◌∙◌, subst, ℤ, pos, ◌*ℤ◌, ◌≤ℤ◌, ◌<ℤ◌, arith, to_z-of_z, SFits}
use Rattle.std.specs.Int.{w128}
use Rattle.std.proofs.lemmas.Int.{ints}
use Rattle.table_box.proofs.Bilinear.{area_positive}
use Rattle.table_box.proofs.Widths.{product_back, product_most}
use Rattle.table_box.proofs.values.area.Goals as goal

fits : (w h : ℤ) → pos 0 <ℤ w → w ≤ℤ pos (2 ^ 41) → pos 0 <ℤ h → h ≤ℤ pos (2 ^ 41) → SFits w128 (w *ℤ h)
fits w h p q r s =
    let a : (w *ℤ h) ≤ℤ pos (2 ^ 82) = product_most (2 ^ 41) (2 ^ 41) w h q (omega (arith, ints)) s in
    let b = area_positive w h p r in
    omega (arith, ints, a, b)

pub returns-clause-value : goal.returns-clause-value
returns-clause-value c =
    let w = c.args.slew_width in let h = c.args.load_width in
    product_back w h _ _ (c.from.ensures ∙ to_z-of_z c.ranges.slew_width) (c.from-2.ensures ∙ to_z-of_z c.ranges.load_width)
    (omega (arith, ints)) (omega (arith, ints)) (fits w h c.requires.slew_low c.requires.slew_high c.requires.load_low c.requires.load_high)

pub returns-clause-positive : goal.returns-clause-positive
returns-clause-positive c =
    let P : ℤ → Type 0 = λ n. pos 0 <ℤ n in
    subst P (sym (returns-clause-value c)) (area_positive c.args.slew_width c.args.load_width c.requires.slew_low c.requires.load_low)
