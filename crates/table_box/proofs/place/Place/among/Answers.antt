-- Between two lines the number is no less than the first and less than the second, and lies within the ends.
use Rattle.std.proofs.Common.{◌+◌, ◌-◌, ◌∙◌, sym, ap, subst, arith, refl, get_or, pos, ◌≤ℤ◌, ℤ, to_z-of_z}
use Rattle.std.proofs.lemmas.Int.{ints}
use Rattle.xt_meaning.specs.Lookup.{span_at}
use Rattle.table_box.proofs.Places.{span_between}
use Rattle.table_box.proofs.place.Place.among.Goals as goal

pub place_in_cell-requires-clause-low : goal.place_in_cell-requires-clause-low
place_in_cell-requires-clause-low c =
    let h = c.if-is_between_lines.ensures refl in let r = c.requires.lines in
    let P : ℤ → Type 0 = λ y. get_or c.args.index.now (c.args.lines - 1) (pos 0) ≤ℤ y in
    subst P (sym (to_z-of_z c.ranges.x)) (r.reached (c.args.lines - 1) (omega (arith, h)))

pub place_in_cell-requires-clause-high : goal.place_in_cell-requires-clause-high
place_in_cell-requires-clause-high c =
    let h = c.if-is_between_lines.ensures refl in let r = c.requires.lines in
    let b = r.beyond ((c.args.lines - 1) + 1) (omega (arith, h)) (omega (arith, h)) in
    let P : ℤ → Type 0 = λ y. y ≤ℤ get_or c.args.index.now ((c.args.lines - 1) + 1) (pos 0) in
    subst P (sym (to_z-of_z c.ranges.x)) (omega (arith, ints, b))

pub returns-then-is_between_lines : goal.returns-then-is_between_lines
returns-then-is_between_lines c =
    let h = c.if-is_between_lines.ensures refl in
    c.place_in_cell.ensures
    ∙ (ap (λ y. span_at c.args.index.now y (c.args.lines - 1)) (to_z-of_z c.ranges.x)
    ∙ sym (span_between _ _ _ c.requires.index c.requires.lines h.0 h.1))
