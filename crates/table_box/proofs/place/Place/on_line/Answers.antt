-- A line is the first of its cell, or the last of all.
use Rattle.std.proofs.Common.{◌≡◌, ◌+◌, ◌-◌, ◌<◌, ◌⊎◌, inl, inr, ◌∙◌, sym, ap, subst, arith, get_or, length, pos, ◌≤ℤ◌, ℤ, to_z, of_z, to_z-of_z, w64}
use Rattle.std.proofs.lemmas.Bool.{cases_lt}
use Rattle.xt_meaning.specs.Lookup.{span_at}
use Rattle.table_box.proofs.Axis.{span_on_line}
use Rattle.table_box.proofs.Cells.{rises}
use Rattle.table_box.proofs.Places.{number_word}
use Rattle.table_box.proofs.place.Place.on_line.Goals as goal

several : (c : goal.After-min) → 1 < length c.args.index.now
several c = let not_one = c.if-index-eq1.false in let some = c.requires.index.some in omega arith

same_line : (c : goal.After-min) → to_z w64 (of_z w64 (get_or c.args.index.now c.args.line (pos 0))) ≡ get_or c.args.index.now c.args.line (pos 0)
same_line c = to_z-of_z (number_word _ (c.requires.index.numbers c.args.line (pos 0) c.requires.line))

pub place_in_cell-requires-clause-low : goal.place_in_cell-requires-clause-low
place_in_cell-requires-clause-low c =
    let e = c.min.ensures in let many = several c in
    let P : ℤ → Type 0 = λ y. get_or c.args.index.now c.min.result (pos 0) ≤ℤ y in
    subst P (sym (same_line c)) (rises c.args.index.now c.requires.index c.min.result c.args.line (omega arith) c.requires.line)

pub place_in_cell-requires-clause-high : goal.place_in_cell-requires-clause-high
place_in_cell-requires-clause-high c =
    let e = c.min.ensures in let many = several c in let line = c.requires.line in
    let P : ℤ → Type 0 = λ y. y ≤ℤ get_or c.args.index.now (c.min.result + 1) (pos 0) in
    subst P (sym (same_line c)) (rises c.args.index.now c.requires.index c.args.line (c.min.result + 1) (omega arith) (omega arith))

pub returns : goal.returns
returns c =
    let e = c.min.ensures in let not_one = c.if-index-eq1.false in let some = c.requires.index.some in let line = c.requires.line in
    let place : (c.min.result ≡ c.args.line) ⊎ ((c.min.result + 1 ≡ c.args.line) × (c.min.result + 2 ≡ length c.args.index.now)) =
    elim (cases_lt (length c.args.index.now - 2) c.args.line) [ inl p ↦ inr (omega arith, omega arith) | inr p ↦ inl (omega arith) ] in
    c.place_in_cell.ensures
    ∙ (ap (λ y. span_at c.args.index.now y c.min.result) (to_z-of_z (number_word _ (c.requires.index.numbers c.args.line (pos 0) line)))
    ∙ sym (span_on_line c.args.index.now c.requires.index c.args.line line c.min.result (omega arith) place))
