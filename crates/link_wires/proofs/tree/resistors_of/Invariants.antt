use Rattle.std.proofs.Common.{◌≡◌, take, map}
use Rattle.link_rules.specs.Wires.{resistor_of}
use Rattle.link_wires.specs.Seen.{resistor_by}
use Rattle.link_wires.proofs.tree.resistors_of.Given as goal

abbrev pub invariant-loop-resistor : goal.invariant-loop-resistor
invariant-loop-resistor l =
    l.resistors.items ≡ map (resistor_of l.nodes.list) (map (resistor_by l.nodes.parasitics) (take l.resistor-index l.wire.resistors.now))
