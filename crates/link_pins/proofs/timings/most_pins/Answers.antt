use Rattle.std.proofs.Common.{◌≡◌, ℕ, ◌≤◌, ◌⊎◌, ◌∙◌, inl, inr, refl, sym, subst, length, get_or, List, ap, arith, Some}
use Rattle.std.specs.List.{slice_get}
use Rattle.std.specs.Option.{IsSomeAnd}
use Rattle.std.proofs.lemmas.Option.{slice_get-get_or}
use Rattle.liberty_cells.specs.declared.cell.Cell.{Cell}
use Rattle.liberty_cells.specs.declared.library.Library.{Library}
use Rattle.link_pins.proofs.TimingLaws.{most_more}
use Rattle.link_pins.proofs.timings.most_pins.Goals as goal
use Rattle.link_pins.proofs.timings.most_pins.Goals.{then-len-most, else-len-most}

-- this number of pins is 0, or that of one of these cells
abbrev IsOne : List Cell → ℕ → Type 0
IsOne cells most = (most ≡ 0) ⊎ ((k : ℕ) × IsSomeAnd (slice_get cells k) (λ c. length c.pins ≡ most))

of_cell : (cells : List Cell) (k : ℕ) (cell : Cell) (most : ℕ) → slice_get cells k ≡ Some cell → length cell.pins ≡ most → IsOne cells most
of_cell cells k cell most there is = inr (k, subst (λ o. IsSomeAnd o (λ c. length c.pins ≡ most)) (sym there) is)

pub loop-cell-init : goal.loop-cell-init
loop-cell-init c = record {
  most = λ k d lt at. absurd (omega (arith, lt));
  one = inl refl;
}

pub loop-cell-preserved : goal.loop-cell-preserved
loop-cell-preserved c =
    let cells = c.as_slice-cell-items.result.now in
    let both : (length c.cell-item.result.pins ≤ c.if-len-most.most) × (c.loop-cell.most ≤ c.if-len-most.most) = elim c.if-len-most.branch [
      | then-len-most w ↦ (omega (arith, w.most-is, c.len.ensures, w.len-most.ensures), omega (arith, w.most-is, w.if-len-most.true, c.len.ensures, w.len-most.ensures))
      | else-len-most w ↦ (omega (arith, w.most-is, c.len.ensures, w.if-len-most.false), omega (arith, w.most-is))
    ] in
    record {
      most = most_more cells c.loop-cell.cell-index c.cell-item.result c.loop-cell.most c.if-len-most.most c.loop-cell.invariant.most c.cell-item.is both.0 both.1;
      one = elim c.if-len-most.branch [
        | then-len-most w ↦ of_cell cells c.loop-cell.cell-index c.cell-item.result c.if-len-most.most
            (slice_get-get_or cells c.loop-cell.cell-index c.cell-item.result c.loop-cell-test.true ∙ ap Some (sym c.cell-item.is)) (omega (arith, w.most-is, w.len-most.ensures))
        | else-len-most w ↦ subst (IsOne cells) (sym w.most-is) c.loop-cell.invariant.one
      ];
    }

pub returns-clause-most : goal.returns-clause-most
returns-clause-most c = λ k d lt.
    let items : c.as_slice-cell-items.result.now ≡ c.args.cells.now.cells = c.as_slice-cell-items.ensures ∙ ap (λ (l : Library). l.cells) c.library.ensures in
    let size : length c.as_slice-cell-items.result.now ≡ length c.args.cells.now.cells = ap length items in
    c.loop-cell.invariant.most k (get_or c.args.cells.now.cells k d) (omega (arith, lt, size, c.loop-cell-test.false))
    (rw items (slice_get-get_or c.args.cells.now.cells k d lt))

pub returns-clause-one : goal.returns-clause-one
returns-clause-one c =
    let items : c.as_slice-cell-items.result.now ≡ c.args.cells.now.cells = c.as_slice-cell-items.ensures ∙ ap (λ (l : Library). l.cells) c.library.ensures in
    subst (λ cells. IsOne cells c.loop-cell.most) items c.loop-cell.invariant.one
