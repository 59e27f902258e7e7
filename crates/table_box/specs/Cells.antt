-- Cells of a table whose sums fit in 64 bits.
use Rattle.std.specs.Prelude.{◌≡◌, ◌+◌, ◌-◌, ◌^◌, ◌≤◌, ◌⊎◌, IsTrue, ℤ, pos, neg_ℤ, ◌+ℤ◌, ◌*ℤ◌, ◌≤ℤ◌, length}
use Rattle.xt_model.specs.Tables.{IsTable}
use Rattle.xt_meaning.specs.Lookup.{Span, cell_value}
use Rattle.table_box.specs.declared.cell.Cell.{Cell}
use Rattle.table_box.specs.declared.stretch.Stretch.{Stretch}
use Rattle.table_box.specs.Spans.{AreAlike, IsSpan, span_in}
use Rattle.table_box.specs.Stretches.{IsStretch}

-- x is of at most this size
pub record IsAtMost (most x : ℤ) : Type 0 where
  pub low : neg_ℤ most ≤ℤ x
  pub high : x ≤ℤ most

-- two numbers of at most this size, and a span whose width, times that size, is at most 2^62
pub record AreMixable (p q most : ℤ) (s : Span) : Type 0 where
  pub first : IsAtMost most p
  pub second : IsAtMost most q
  pub below : pos 0 ≤ℤ s.below
  pub above : pos 0 ≤ℤ s.above
  pub whole : s.below +ℤ s.above ≡ s.width
  pub width : s.width ≤ℤ pos (2 ^ 41)
  pub room : (most *ℤ s.width) ≤ℤ pos (2 ^ 62)

-- four numbers of at most this size
pub record AreAtMost (most a b c d : ℤ) : Type 0 where
  pub first : IsAtMost most a
  pub second : IsAtMost most b
  pub third : IsAtMost most c
  pub fourth : IsAtMost most d

-- no number at a corner is greater than one at a greater slew or load
pub record DoRise (first_first first_second second_first second_second : ℤ) : Type 0 where
  pub first_row : first_first ≤ℤ first_second
  pub second_row : second_first ≤ℤ second_second
  pub first_column : first_first ≤ℤ second_first
  pub second_column : first_second ≤ℤ second_second

-- so it is at the corners of this cell
abbrev pub IsRising : Cell → Type 0
IsRising k = DoRise k.first_first k.first_second k.second_first k.second_second

-- the numbers at the corners of a cell, of a size that times its area is at most 2^62, and that rise where it is said
pub record IsSmallCell (k : Cell) : Type 0 where
  pub table : IsTable k.table.now
  pub slew : IsSpan (length k.table.now.slews) (span_in k.slew.now)
  pub load : IsSpan (length k.table.now.loads) (span_in k.load.now)
  pub area : k.area ≡ k.slew.now.width *ℤ k.load.now.width
  pub first_first : k.first_first ≡ cell_value k.table.now k.slew.now.first k.load.now.first
  pub first_second : k.first_second ≡ cell_value k.table.now k.slew.now.first k.load.now.second
  pub second_first : k.second_first ≡ cell_value k.table.now k.slew.now.second k.load.now.first
  pub second_second : k.second_second ≡ cell_value k.table.now k.slew.now.second k.load.now.second
  pub fits : k.area ≤ℤ pos (2 ^ 63 - 1)
  pub most : ℤ
  pub natural : pos 0 ≤ℤ most
  pub room : (most *ℤ k.area) ≤ℤ pos (2 ^ 62)
  pub first_first_small : IsAtMost most k.first_first
  pub first_second_small : IsAtMost most k.first_second
  pub second_first_small : IsAtMost most k.second_first
  pub second_second_small : IsAtMost most k.second_second
  pub rising : IsTrue k.rising → IsRising k

-- cells of one table and one place of slews, in which the least and the greatest of several loads lie
pub record AreEnds (k l : Cell) (r : Stretch) : Type 0 where
  pub first : IsSmallCell k
  pub last : IsSmallCell l
  pub table : l.table.now ≡ k.table.now
  pub slew : l.slew.now ≡ k.slew.now
  pub loads : IsStretch k.table.now.loads r
  pub start : AreAlike (span_in k.load.now) (span_in r.start)
  pub end : AreAlike (span_in l.load.now) (span_in r.end)

-- the ends lie in neighbouring cells, and no line lies between them but that between the cells
pub record AreNeighbours (r : Stretch) : Type 0 where
  pub line : r.start.second ≡ r.end.first
  pub first : r.first ≡ r.end.first
  pub last : r.last ≤ r.first + 1

-- two cells that rise, and are one or neighbours
pub record AreRising (k l : Cell) (r : Stretch) : Type 0 where
  pub first : IsRising k
  pub last : IsRising l
  pub near : IsTrue r.inside ⊎ AreNeighbours r
