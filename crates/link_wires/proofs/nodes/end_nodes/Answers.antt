use Rattle.std.proofs.Common.{◌++◌, ◌∷◌, [], map, sym, ap, ◌∙◌, append_assoc, append-nil}
use Rattle.link_rules.specs.declared.circuit.Sink.{Sink}
use Rattle.link_rules.specs.Ends.{end_name}
use Rattle.link_index.proofs.FirstLaws.{first_and_rest, no_items, rest_of}
use Rattle.link_wires.proofs.nodes.end_nodes.Goals as goal

pub end_node-requires : goal.end_node-requires
end_node-requires c = c.requires

pub end_node-requires-in-len1-up : goal.end_node-requires-in-len1-up
end_node-requires-in-len1-up c = c.requires

pub sinks-preserved : goal.sinks-preserved
sinks-preserved c =
    let named = λ (s : Sink). end_name c.args.delimiter s.end in
    let ends = c.sinks.ends.items in
    let rest = c.sinks.rest.now in
    let x = c.sink-item.result in
    let more = c.in_ok-push-2.ensures.items ∙ ap (λ n. ends ++ n ∷ []) c.in_ok-end_node-2.ensures in
    ap (λ l. l ++ map named (rest_of rest)) more ∙ (append_assoc ends (named x ∷ []) (map named (rest_of rest))
    ∙ (ap (λ y. ends ++ map named (y ∷ rest_of rest)) c.sink-item.is
    ∙ (ap (λ l. ends ++ map named l) (sym (first_and_rest rest x c.in-len1-up.len_at_least)) ∙ c.sinks.invariant)))

pub returns : goal.returns
returns c =
    let ends = c.sinks.ends.items in
    let rest = c.sinks.rest.now in
    sym (append-nil ends) ∙ (ap (λ l. ends ++ map (λ (s : Sink). end_name c.args.delimiter s.end) l) (sym (no_items rest c.in_default-rest.len_below)) ∙ c.sinks.invariant)
