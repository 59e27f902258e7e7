-- The pins of a cell that come from one group of the text.
use Rattle.std.specs.Prelude.{◌≡◌, ℕ, ◌+◌, ◌<◌, ◌≤◌, List, length, Some}
use Rattle.std.specs.List.{slice_get, slice_index}
use Rattle.std.specs.List.Sorted.{IsNonDecreasing}
use Rattle.liberty_cells.specs.Pins.{PinParts, pin_named}

-- pins that differ in their names alone
abbrev pub AreAlike : PinParts → PinParts → Type 0
AreAlike p q = q ≡ pin_named p.role p.cap p.timings q.name

-- a pin is alike the one at this place, which comes no later
pub record IsFirst (pins : List PinParts) (place first : ℕ) : Type 0 where
  pub least : first ≤ place
  pub alike : (p q : PinParts) → slice_get pins first ≡ Some p → slice_get pins place ≡ Some q → AreAlike p q

-- of these places number i is the last that is no later than a place
pub record IsLast (firsts : List ℕ) (place i : ℕ) : Type 0 where
  pub there : i < length firsts
  pub least : slice_index firsts i ≤ place
  pub next : i + 1 < length firsts → place < slice_index firsts (i + 1)

-- places of pins, to the last of which before it each pin is alike
pub record AreFirsts (pins : List PinParts) (firsts : List ℕ) : Type 0 where
  pub rising : IsNonDecreasing firsts
  pub most : (i : ℕ) → i < length firsts → slice_index firsts i ≤ length pins
  pub each : (place i : ℕ) → place < length pins → IsLast firsts place i → IsFirst pins place (slice_index firsts i)
