use Rattle.std.proofs.Common.{take}
use Rattle.link_rules.specs.Pins.{pins}
use Rattle.link_pins.specs.Rows.{AreDrivers}
use Rattle.link_pins.proofs.drivers.all_drivers.Given as goal

abbrev pub invariant-loop-pin : goal.invariant-loop-pin
invariant-loop-pin l = AreDrivers l.nets.nets (take l.pin-index (pins l.cells l.nets)) l.drivers.items
