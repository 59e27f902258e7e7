use Rattle.std.proofs.Common.{◌≡◌, map}
use Rattle.verilog_net.specs.Bits.{rising}
use Rattle.link_rules.specs.Wires.{sink_node}
use Rattle.link_wires.specs.Seen.{wire_by}
use Rattle.link_wires.proofs.tree.sink_nodes.Given as goal

abbrev pub invariant-loop-sink : goal.invariant-loop-sink
invariant-loop-sink l = l.sinks.items ≡ map (sink_node (wire_by l.nodes.parasitics l.wire)) (rising 0 l.sink)
