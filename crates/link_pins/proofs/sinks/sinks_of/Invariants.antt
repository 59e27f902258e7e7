use Rattle.std.proofs.Common.{◌≡◌, ℕ, ◌<◌, ◌≤◌, length, Some}
use Rattle.std.specs.List.{slice_get}
use Rattle.verilog_net.specs.Bits.{Bit, bits}
use Rattle.link_rules.specs.Circuit.{sinks_of}
use Rattle.link_rules.specs.Pins.{pins}
use Rattle.link_pins.specs.declared.sinks.NetSinks.{NetSinks}
use Rattle.link_pins.specs.Rows.{sinks_by, ArePlaces}
use Rattle.link_pins.proofs.sinks.sinks_of.Given as goal

abbrev pub invariant-loop-net : goal.invariant-loop-net
invariant-loop-net l = record {
  count : length l.sinks.nets.items ≡ length (bits l.nets.nets);
  done : (i : ℕ) (b : Bit) (row : NetSinks) → i < l.net → slice_get (bits l.nets.nets) i ≡ Some b → slice_get l.sinks.nets.items i ≡ Some row
      → row.sinks.items ≡ sinks_of l.cells l.nets l.constraints (i, b);
  left : (i : ℕ) (row : NetSinks) → l.net ≤ i → slice_get l.sinks.nets.items i ≡ Some row → row.sinks.items ≡ sinks_by (pins l.cells l.nets) i;
  places : ArePlaces (pins l.cells l.nets) l.sinks.places.items;
}
