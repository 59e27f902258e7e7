-- The cell that the search finds is the one that holds the number.
use Rattle.std.proofs.Common.{◌+◌, ◌∙◌, sym, ap, subst, get_or, pos, ◌≤ℤ◌, ℤ}
use Rattle.xt_meaning.specs.Lookup.{span_at}
use Rattle.table_box.proofs.Axis.{closed_cell, span_in_cell}
use Rattle.table_box.proofs.Places.{cell_among, number_found}
use Rattle.table_box.proofs.place.Place.of_clamped.Goals as goal

pub place_in_cell-requires-clause-low : goal.place_in_cell-requires-clause-low
place_in_cell-requires-clause-low c =
    let cell = cell_among _ _ _ _ _ c.requires.index c.if-index-eq1.false c.requires.lines c.saturating_sub.ensures c.min-cell.ensures in
    let P : ℤ → Type 0 = λ y. get_or c.args.index.now c.min-cell.result (pos 0) ≤ℤ y in
    subst P (sym (number_found c.args.index.now c.args.x _ c.ranges.x c.brought_within.ensures.value c.brought_within.ensures.number))
    (closed_cell c.args.index.now c.requires.index c.args.x c.min-cell.result cell).0

pub place_in_cell-requires-clause-high : goal.place_in_cell-requires-clause-high
place_in_cell-requires-clause-high c =
    let cell = cell_among _ _ _ _ _ c.requires.index c.if-index-eq1.false c.requires.lines c.saturating_sub.ensures c.min-cell.ensures in
    let P : ℤ → Type 0 = λ y. y ≤ℤ get_or c.args.index.now (c.min-cell.result + 1) (pos 0) in
    subst P (sym (number_found c.args.index.now c.args.x _ c.ranges.x c.brought_within.ensures.value c.brought_within.ensures.number))
    (closed_cell c.args.index.now c.requires.index c.args.x c.min-cell.result cell).1

pub returns : goal.returns
returns c =
    let cell = cell_among _ _ _ _ _ c.requires.index c.if-index-eq1.false c.requires.lines c.saturating_sub.ensures c.min-cell.ensures in
    c.place_in_cell.ensures
    ∙ (ap (λ y. span_at c.args.index.now y c.min-cell.result)
    (number_found c.args.index.now c.args.x _ c.ranges.x c.brought_within.ensures.value c.brought_within.ensures.number)
    ∙ sym (span_in_cell c.args.index.now c.requires.index c.args.x c.min-cell.result cell))
