use Rattle.std.proofs.Common.{◌∙◌, sym, ap, [], ◌∷◌, ◌++◌, map}
use Rattle.verilog_net.specs.Bits.{rising}
use Rattle.link_rules.specs.Wires.{sink_node}
use Rattle.link_wires.specs.Seen.{wire_by}
use Rattle.link_wires.proofs.ListLaws.{map_rising_push}
use Rattle.link_wires.proofs.tree.sink_nodes.Goals as goal

pub loop-sink-preserved : goal.loop-sink-preserved
loop-sink-preserved c =
    let f = sink_node (wire_by c.args.nodes.now.parasitics c.args.wire.now) in
    c.in_ok-push.ensures.items
    ∙ (ap (λ xs. xs ++ c.sink_node.result ∷ []) c.loop-sink.invariant
    ∙ (ap (λ m. map f (rising 0 c.loop-sink.sink) ++ m ∷ []) c.sink_node.ensures ∙ sym (map_rising_push f c.loop-sink.sink)))
