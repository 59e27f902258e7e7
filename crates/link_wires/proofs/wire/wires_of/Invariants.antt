use Rattle.std.proofs.Common.{◌≡◌, take}
use Rattle.std.specs.List.{enumerate_from}
use Rattle.link_wires.specs.Wires.{AreWires}
use Rattle.link_wires.proofs.wire.wires_of.Given as goal

abbrev pub invariant-loop-net : goal.invariant-loop-net
invariant-loop-net l = record {
  wires : AreWires l.index.netlist l.index.parasitics (take l.net (enumerate_from 0 l.nets)) l.wires.items;
  nets : l.node_nets ≡ l.index;
  nodes : l.nodes.parasitics ≡ l.index.parasitics;
}
