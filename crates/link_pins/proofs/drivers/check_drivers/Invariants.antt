use Rattle.std.proofs.Common.{◌≡◌}
use Rattle.liberty_cells.specs.declared.library.Library.{Library}
use Rattle.link_rules.specs.Pins.{pins}
use Rattle.link_rules.specs.Refusals.{driver_fault}
use Rattle.link_pins.specs.Rows.{AreDrivers}
use Rattle.link_pins.proofs.DriverFaults.{faults_from}
use Rattle.link_pins.proofs.drivers.check_drivers.Given as goal

abbrev pub invariant-loop-net : goal.invariant-loop-net
invariant-loop-net l = (library : Library) → AreDrivers l.nets.nets (pins library l.nets) l.drivers
    → faults_from library l.nets l.net ≡ driver_fault library l.nets
