use Rattle.std.proofs.Common.{◌≡◌, drop, map, reverse, take}
use Rattle.link_rules.specs.Circuit.{numbered}
use Rattle.link_pins.proofs.MadeLaws.{bare_pins}
use Rattle.link_pins.proofs.nets.all_nets.Given as goal

abbrev pub invariant-loop-net : goal.invariant-loop-net
invariant-loop-net l = record {
  made : l.made.items ≡ map (bare_pins l.cells l.nets l.constraints) (take l.net (numbered l.nets));
  drivers : reverse l.drivers.items ≡ drop l.net l.fn.gathered.drivers.items;
  sinks : reverse l.sinks.items ≡ drop l.net l.fn.gathered.sinks.items;
}
