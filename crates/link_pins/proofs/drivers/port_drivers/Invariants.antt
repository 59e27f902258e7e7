use Rattle.std.proofs.Common.{◌≡◌, ℕ, [], length, Some}
use Rattle.std.specs.List.{slice_get}
use Rattle.verilog_net.specs.Bits.{Bit, bits}
use Rattle.link_pins.specs.declared.drivers.Driver.{Driver}
use Rattle.link_pins.specs.Rows.{IsDriver, drivers_by}
use Rattle.link_pins.proofs.drivers.port_drivers.Given as goal

abbrev pub invariant-loop-net : goal.invariant-loop-net
invariant-loop-net l = record {
  count : length l.drivers.items ≡ l.net;
  each : (i : ℕ) (b : Bit) (d : Driver) → slice_get (bits l.nets.nets) i ≡ Some b → slice_get l.drivers.items i ≡ Some d
      → IsDriver d (drivers_by [] i b);
}
