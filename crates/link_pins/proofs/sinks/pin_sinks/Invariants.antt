use Rattle.std.proofs.Common.{◌≡◌, ℕ, ◌<◌, length, take, Some, get_or}
use Rattle.std.specs.List.{slice_get}
use Rattle.link_rules.specs.Pins.{Connected, pins}
use Rattle.link_pins.specs.Rows.{inputs_in, ArePinSinks}
use Rattle.link_pins.proofs.sinks.pin_sinks.Given as goal

abbrev pub invariant-loop-pin : goal.invariant-loop-pin
invariant-loop-pin l = record {
  sinks : ArePinSinks l.nets.nets (take l.pin-index (pins l.cells l.nets)) l.rows.items;
  count : length l.places.items ≡ l.pin-index;
  each : (k : ℕ) (c : Connected) → k < l.pin-index → slice_get (pins l.cells l.nets) k ≡ Some c
      → get_or l.places.items k 0 ≡ length (inputs_in c.net (take k (pins l.cells l.nets)));
}
