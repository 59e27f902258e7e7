-- Related pins with their timing groups.
use Rattle.std.specs.Prelude.{ℕ, ◌<◌, List, length, Option, option_map}
use Rattle.std.specs.List.{All, slice_get}
use Rattle.liberty_cells.specs.declared.timing.Timing.{Timing}
use Rattle.link_pins.specs.declared.related_pins.NumberedPin.{NumberedPin}

-- a timing group with the place in its cell of a pin that it is related to
abbrev pub TimedPlace : Type 0
TimedPlace = Timing × ℕ

abbrev pub with_timing : Timing → ℕ → TimedPlace
with_timing t k = (t, k)

-- related pins in order, and the timing groups that they are of
pub record TimedPins : Type 0 where
  pub timings : List Timing
  pub items : List TimedPlace

-- the related pin of these numbers
abbrev pub timed_pin : List Timing → NumberedPin → Option TimedPlace
timed_pin ts p = option_map (λ t. (t, p.pin)) (slice_get ts p.timing)

-- all are of timing groups that are there
abbrev pub AreNumbered : List Timing → List NumberedPin → Type 0
AreNumbered ts ps = All (λ p. p.timing < length ts) ps
