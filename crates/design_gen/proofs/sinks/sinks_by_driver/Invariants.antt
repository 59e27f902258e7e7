use Rattle.std.proofs.Common.{◌≡◌, length, map}
use Rattle.std.specs.Prelude.{slice_index}
use Rattle.design_gen.specs.Lists.{each_below}
use Rattle.design_gen.specs.Taps.{place_of}
use Rattle.design_gen.specs.Rows.{HoldPins}
use Rattle.design_gen.proofs.sinks.sinks_by_driver.Given as goal

abbrev pub invariant-loop-pin : goal.invariant-loop-pin
invariant-loop-pin l = record {
  rows : HoldPins (map (λ r. r.items) l.rows.items) (slice_index l.drivers) l.pin;
  count : length l.rows.items ≡ l.nets;
  places : l.places.items ≡ each_below (place_of (slice_index l.drivers)) l.pin;
}
