-- Tables whose numbers rise along both axes and are small for their cells.
use Rattle.std.specs.Prelude.{◌≡◌, ℕ, ◌+◌, ◌-◌, ◌<◌, ◌^◌, ℤ, pos, ◌*ℤ◌, ◌-ℤ◌, ◌≤ℤ◌, List, length}
use Rattle.std.specs.List.{All, slice_index_or}
use Rattle.xt_model.specs.Tables.{IsTable, TableParts}
use Rattle.xt_meaning.specs.Lookup.{Box, span_of}
use Rattle.table_box.specs.declared.place.Place.{Place}
use Rattle.table_box.specs.declared.segment.Segment.{Segment}
use Rattle.table_box.specs.declared.stretch.Stretch.{Stretch}
use Rattle.table_box.specs.Spans.{span_in}
use Rattle.table_box.specs.Cells.{IsAtMost}
use Rattle.table_box.specs.Rises.{DoAllRise}

-- neighbouring grid lines are at most this far apart
pub record AreAtMostApart (xs : List ℤ) (most : ℤ) : Type 0 where
  pub each : (i : ℕ) → i + 1 < length xs → (slice_index_or xs (i + 1) (pos 0) -ℤ slice_index_or xs i (pos 0)) ≤ℤ most

-- numbers of a size that, times the area of any cell, is at most 2^62
pub record AreSmall (t : TableParts) : Type 0 where
  pub most : ℤ
  pub least : pos 1 ≤ℤ most
  pub numbers : All (IsAtMost most) t.values
  pub room : (s c : ℤ) → (most *ℤ ((span_of t.slews s).width *ℤ (span_of t.loads c).width)) ≤ℤ pos (2 ^ 62)

-- all numbers rise along both axes, and are small for the cells
pub record IsMonotone (t : TableParts) : Type 0 where
  pub table : IsTable t
  pub rising : DoAllRise t 0 (length t.slews - 1) 0 (length t.loads - 1)
  pub small : AreSmall t

-- the place of some number on an axis
pub record IsPlaceOn (xs : List ℤ) (p : Place) : Type 0 where
  pub number : ℤ
  pub place : span_in p ≡ span_of xs number

-- the places of both ends on this axis
pub record IsSegment (xs : List ℤ) (r : Segment) : Type 0 where
  pub ordered : r.from ≤ℤ r.to
  pub start : span_in r.start ≡ span_of xs r.from
  pub end : span_in r.end ≡ span_of xs r.to

-- all whole points of a range of slews and a range of loads
abbrev pub box_between : Segment → Stretch → Box
box_between slews loads = record { s0 = slews.from; s1 = slews.to; c0 = loads.from; c1 = loads.to }

-- two monotone tables with the same axes
pub record AreMonotone (t u : TableParts) : Type 0 where
  pub first : IsMonotone t
  pub second : IsMonotone u
  pub slews : t.slews ≡ u.slews
  pub loads : t.loads ≡ u.loads
