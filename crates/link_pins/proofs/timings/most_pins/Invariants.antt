use Rattle.std.proofs.Common.{◌≡◌, ℕ, ◌<◌, ◌≤◌, ◌⊎◌, length, Some}
use Rattle.std.specs.List.{slice_get}
use Rattle.std.specs.Option.{IsSomeAnd}
use Rattle.liberty_cells.specs.declared.cell.Cell.{Cell}
use Rattle.link_pins.proofs.timings.most_pins.Given as goal

abbrev pub invariant-loop-cell : goal.invariant-loop-cell
invariant-loop-cell l = record {
  most : (k : ℕ) (d : Cell) → k < l.cell-index → slice_get l.cell-items k ≡ Some d → length d.pins ≤ l.most;
  one : (l.most ≡ 0) ⊎ ((k : ℕ) × IsSomeAnd (slice_get l.cell-items k) (λ c. length c.pins ≡ l.most));
}
