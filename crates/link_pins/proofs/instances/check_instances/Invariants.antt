use Rattle.std.proofs.Common.{◌≡◌, length}
use Rattle.std.specs.List.{All}
use Rattle.link_rules.specs.Refusals.{instances_fault}
use Rattle.verilog_net.specs.Sound.{IsSoundInstance}
use Rattle.link_pins.proofs.instances.check_instances.Given as goal

abbrev pub invariant-instances : goal.invariant-instances
invariant-instances l = record {
  same : instances_fault l.cells l.rest ≡ instances_fault l.cells l.netlist.instances;
  sound : All IsSoundInstance l.rest;
}

abbrev pub decreases-instances : goal.decreases-instances
decreases-instances l = length l.rest
