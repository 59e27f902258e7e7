use Rattle.std.proofs.Common.{◌≡◌, ◌++◌, take}
use Rattle.verilog_net.specs.Bits.{bits}
use Rattle.link_rules.specs.Checks.{port_checks_from}
use Rattle.link_pins.proofs.nets.add_all_ports.Given as goal

abbrev pub invariant-loop-net : goal.invariant-loop-net
invariant-loop-net l = l.checks.items ≡ l.initial.checks.items ++ port_checks_from l.cells l.nets l.constraints 0 (take l.net (bits l.nets.nets))
