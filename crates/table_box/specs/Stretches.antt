-- Ranges of numbers on an axis of a table.
use Rattle.std.specs.Prelude.{◌≡◌, ◌≤◌, IsTrue, ℤ, ◌≤ℤ◌, List}
use Rattle.xt_meaning.specs.Lookup.{Box, span_of}
use Rattle.table_box.specs.declared.stretch.Stretch.{Stretch}
use Rattle.table_box.specs.Spans.{LieBelow, ReachUpTo, span_in}

-- the places of both ends on this axis, and the grid lines between them: none, where the ends are said to be inside a
-- cell, and then both have the same first line
pub record IsStretch (xs : List ℤ) (r : Stretch) : Type 0 where
  pub ordered : r.from ≤ℤ r.to
  pub single : IsTrue r.single → r.from ≡ r.to
  pub start : span_in r.start ≡ span_of xs r.from
  pub end : span_in r.end ≡ span_of xs r.to
  pub first : ReachUpTo xs r.from r.first
  pub last : LieBelow xs r.to r.last
  pub none_between : IsTrue r.inside → r.last ≤ r.first
  pub one_cell : IsTrue r.inside → r.start.first ≡ r.end.first

-- all whole points of a range of slews and a range of loads
abbrev pub box_of : Stretch → Stretch → Box
box_of slews loads = record { s0 = slews.from; s1 = slews.to; c0 = loads.from; c1 = loads.to }
