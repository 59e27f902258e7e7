use Rattle.std.proofs.Common.{◌≡◌, map, ◌++◌, length}
use Rattle.link_rules.specs.Ends.{end_name}
use Rattle.link_rules.specs.Wires.{end_nodes}
use Rattle.link_wires.proofs.nodes.end_nodes.Given as goal

abbrev pub invariant-sinks : goal.invariant-sinks
invariant-sinks l = l.ends.items ++ map (λ s. end_name l.delimiter s.end) l.rest ≡ end_nodes l.delimiter l.pins

abbrev pub decreases-sinks : goal.decreases-sinks
decreases-sinks l = length l.rest
