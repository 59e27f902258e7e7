-- Places on an axis of a table.
use Rattle.std.specs.Prelude.{◌≡◌, ℕ, ◌<◌, ◌≤◌, ◌^◌, ℤ, pos, ◌+ℤ◌, ◌≤ℤ◌, ◌<ℤ◌, List, length}
use Rattle.std.specs.List.{slice_index_or}
use Rattle.xt_meaning.specs.Lookup.{Span}
use Rattle.table_box.specs.declared.place.Place.{Place}

-- a place, as the definitions see it
abbrev pub span_in : Place → Span
span_in p = record { first = p.first; second = p.second; above = p.above; below = p.below; width = p.width }

-- a place between two of n grid lines, which lie up to 2^41 apart
pub record IsSpan (n : ℕ) (s : Span) : Type 0 where
  pub first : s.first < n
  pub second : s.second < n
  pub above : pos 0 ≤ℤ s.above
  pub below : pos 0 ≤ℤ s.below
  pub whole : s.below +ℤ s.above ≡ s.width
  pub positive : pos 0 <ℤ s.width
  pub most : s.width ≤ℤ pos (2 ^ 41)

-- the first n grid lines lie at or below x, and the others above it
pub record ReachUpTo (xs : List ℤ) (x : ℤ) (n : ℕ) : Type 0 where
  pub within : n ≤ length xs
  pub reached : (j : ℕ) → j < n → slice_index_or xs j (pos 0) ≤ℤ x
  pub beyond : (j : ℕ) → n ≤ j → j < length xs → x <ℤ slice_index_or xs j (pos 0)

-- the first n grid lines lie below x, and the others at or above it
pub record LieBelow (xs : List ℤ) (x : ℤ) (n : ℕ) : Type 0 where
  pub within : n ≤ length xs
  pub reached : (j : ℕ) → j < n → slice_index_or xs j (pos 0) <ℤ x
  pub beyond : (j : ℕ) → n ≤ j → j < length xs → x ≤ℤ slice_index_or xs j (pos 0)

-- two places between the same two lines, of which the second is as far from each as these are apart
pub record AreAlike (s r : Span) : Type 0 where
  pub first : s.first ≡ r.first
  pub second : s.second ≡ r.second
  pub width : s.width ≡ r.width
  pub above : pos 0 ≤ℤ r.above
  pub below : pos 0 ≤ℤ r.below
  pub whole : r.below +ℤ r.above ≡ r.width
