use Rattle.std.proofs.Common.{◌≡◌, ◌∙◌, ◌∷◌, [], Result, Ok, Err, sym, ap, subst}
use Rattle.std.specs.Prelude.{is_some, option_map, OnOk}
use Rattle.std.proofs.lemmas.Result.{IfOk-weaker, IfErr-weaker}
use Rattle.xt_model.specs.Names.{IsName}
use Rattle.spef_read.specs.declared.parasitics.Parasitics.{Parasitics}
use Rattle.link_rules.specs.Wires.{names_on, end_nodes, listed, wire_in, wire_of}
use Rattle.link_wires.specs.Seen.{wire_by}
use Rattle.link_wires.specs.Wires.{HasNames, HasQuantities, IsNumbered}
use Rattle.link_wires.proofs.NodeLaws.{some_mapped}
use Rattle.link_wires.proofs.PlaceLaws.{entered}
use Rattle.link_wires.proofs.SoundLaws.{wire_named, wire_valued}
use Rattle.link_wires.proofs.NetLaws.{listed_sound, wire_is, nodes_are, net_numbered, is_wire, is_fault}
use Rattle.link_wires.proofs.wire.wire_of.Goals as goal

-- what holds whatever the result is
always : {A E : Type 0} (r : Result A E) (X : Type 0) → X → OnOk r X
always (Ok a) X x = x
always (Err e) X x = tt

pub take_nodes-requires : goal.take_nodes-requires
take_nodes-requires c =
    let n = c.args.index.now.netlist in
    let p = c.args.index.now.parasitics in
    let pins = c.args.pins.now in
    let net = c.args.net in
    let parts = c.in_ok-parts.parts in
    let w : wire_by p parts ≡ wire_in n p net (listed n p pins) =
    ap (λ e. wire_by e.parasitics parts) (sym c.requires.nets) ∙ (c.in_ok-parts.ensures.value
    ∙ (ap (λ e. wire_in e.netlist e.parasitics net (option_map (λ t. t.now) c.listed-listed.result)) c.requires.nets ∙ ap (wire_in n p net) c.listed-listed.ensures)) in
    subst (λ q. HasNames (wire_by q parts)) (sym c.requires.nodes)
    (subst HasNames (sym w) (wire_named n p c.requires.parasitics net (listed n p pins) (listed_sound n p c.requires.parasitics pins)))

pub wire_within-requires-clause-numbered : goal.wire_within-requires-clause-numbered
wire_within-requires-clause-numbered c =
    let n = c.args.index.now.netlist in
    let p = c.args.index.now.parasitics in
    let pins = c.args.pins.now in
    let net = c.args.net in
    let parts = c.in_ok-parts.parts in
    let w : wire_by p parts ≡ wire_in n p net (listed n p pins) =
    ap (λ e. wire_by e.parasitics parts) (sym c.requires.nets) ∙ (c.in_ok-parts.ensures.value
    ∙ (ap (λ e. wire_in e.netlist e.parasitics net (option_map (λ t. t.now) c.listed-listed.result)) c.requires.nets ∙ ap (wire_in n p net) c.listed-listed.ensures)) in
    let nodes = c.take_nodes.new.nodes in
    let same : nodes.parasitics ≡ p = c.in_ok-take_nodes.ensures.same ∙ c.requires.nodes in
    let here_w : wire_by nodes.parasitics parts ≡ wire_in n p net (listed n p pins) = ap (λ q. wire_by q parts) same ∙ w in
    let ends = c.in_ok-ends.ensures ∙ ap (λ q. end_nodes q.delimiter pins) c.parasitics.ensures in
    let list : nodes.list ≡ entered (end_nodes p.delimiter pins) (names_on (wire_in n p net (listed n p pins))) =
    c.in_ok-take_nodes.ensures.list ∙ (ap (λ e. entered e (names_on (wire_by c.args.nodes.now.parasitics parts))) ends
    ∙ ap (λ x. entered (end_nodes p.delimiter pins) (names_on x)) (ap (λ q. wire_by q parts) c.requires.nodes ∙ w)) in
    subst (λ l. IsNumbered l pins.sinks (wire_by nodes.parasitics parts)) (sym list)
    (subst (λ x. IsNumbered (entered (end_nodes p.delimiter pins) (names_on (wire_in n p net (listed n p pins)))) pins.sinks x) (sym here_w) (net_numbered n p net pins))

pub wire_within-requires-clause-wire : goal.wire_within-requires-clause-wire
wire_within-requires-clause-wire c =
    let n = c.args.index.now.netlist in
    let p = c.args.index.now.parasitics in
    let pins = c.args.pins.now in
    let net = c.args.net in
    let parts = c.in_ok-parts.parts in
    let w : wire_by p parts ≡ wire_in n p net (listed n p pins) =
    ap (λ e. wire_by e.parasitics parts) (sym c.requires.nets) ∙ (c.in_ok-parts.ensures.value
    ∙ (ap (λ e. wire_in e.netlist e.parasitics net (option_map (λ t. t.now) c.listed-listed.result)) c.requires.nets ∙ ap (wire_in n p net) c.listed-listed.ensures)) in
    let nodes = c.take_nodes.new.nodes in
    let same : nodes.parasitics ≡ p = c.in_ok-take_nodes.ensures.same ∙ c.requires.nodes in
    let here_w : wire_by nodes.parasitics parts ≡ wire_in n p net (listed n p pins) = ap (λ q. wire_by q parts) same ∙ w in
    let ends = c.in_ok-ends.ensures ∙ ap (λ q. end_nodes q.delimiter pins) c.parasitics.ensures in
    let list : nodes.list ≡ entered (end_nodes p.delimiter pins) (names_on (wire_in n p net (listed n p pins))) =
    c.in_ok-take_nodes.ensures.list ∙ (ap (λ e. entered e (names_on (wire_by c.args.nodes.now.parasitics parts))) ends
    ∙ ap (λ x. entered (end_nodes p.delimiter pins) (names_on x)) (ap (λ q. wire_by q parts) c.requires.nodes ∙ w)) in
    subst HasQuantities (sym here_w) (wire_valued n p c.requires.parasitics net (listed n p pins) (listed_sound n p c.requires.parasitics pins))

pub returns-clause-ok : goal.returns-clause-ok
returns-clause-ok c =
    let n = c.args.index.now.netlist in
    let p = c.args.index.now.parasitics in
    let pins = c.args.pins.now in
    let net = c.args.net in
    let parts = c.in_ok-parts.parts in
    let w : wire_by p parts ≡ wire_in n p net (listed n p pins) =
    ap (λ e. wire_by e.parasitics parts) (sym c.requires.nets) ∙ (c.in_ok-parts.ensures.value
    ∙ (ap (λ e. wire_in e.netlist e.parasitics net (option_map (λ t. t.now) c.listed-listed.result)) c.requires.nets ∙ ap (wire_in n p net) c.listed-listed.ensures)) in
    let nodes = c.take_nodes.new.nodes in
    let same : nodes.parasitics ≡ p = c.in_ok-take_nodes.ensures.same ∙ c.requires.nodes in
    let here_w : wire_by nodes.parasitics parts ≡ wire_in n p net (listed n p pins) = ap (λ q. wire_by q parts) same ∙ w in
    let ends = c.in_ok-ends.ensures ∙ ap (λ q. end_nodes q.delimiter pins) c.parasitics.ensures in
    let list : nodes.list ≡ entered (end_nodes p.delimiter pins) (names_on (wire_in n p net (listed n p pins))) =
    c.in_ok-take_nodes.ensures.list ∙ (ap (λ e. entered e (names_on (wire_by c.args.nodes.now.parasitics parts))) ends
    ∙ ap (λ x. entered (end_nodes p.delimiter pins) (names_on x)) (ap (λ q. wire_by q parts) c.requires.nodes ∙ w)) in
    let of_w : wire_by nodes.parasitics parts ≡ wire_of n p net pins = here_w ∙ sym (wire_is n p net pins) in
    let ns = list ∙ (ap (λ x. entered (end_nodes p.delimiter pins) (names_on x)) (sym (wire_is n p net pins)) ∙ sym (nodes_are p.delimiter pins (wire_of n p net pins))) in
    let here = c.is_some.ensures ∙ (sym (some_mapped (λ t. t.now) c.listed-listed.result) ∙ ap is_some c.listed-listed.ensures) in
    IfOk-weaker c.wire_within.result _ _ (is_wire n p net pins (wire_by nodes.parasitics parts) nodes.list c.is_some.result of_w ns here) c.wire_within.ensures.ok

pub returns-clause-fault : goal.returns-clause-fault
returns-clause-fault c =
    let n = c.args.index.now.netlist in
    let p = c.args.index.now.parasitics in
    let pins = c.args.pins.now in
    let net = c.args.net in
    let parts = c.in_ok-parts.parts in
    let w : wire_by p parts ≡ wire_in n p net (listed n p pins) =
    ap (λ e. wire_by e.parasitics parts) (sym c.requires.nets) ∙ (c.in_ok-parts.ensures.value
    ∙ (ap (λ e. wire_in e.netlist e.parasitics net (option_map (λ t. t.now) c.listed-listed.result)) c.requires.nets ∙ ap (wire_in n p net) c.listed-listed.ensures)) in
    let nodes = c.take_nodes.new.nodes in
    let same : nodes.parasitics ≡ p = c.in_ok-take_nodes.ensures.same ∙ c.requires.nodes in
    let here_w : wire_by nodes.parasitics parts ≡ wire_in n p net (listed n p pins) = ap (λ q. wire_by q parts) same ∙ w in
    let ends = c.in_ok-ends.ensures ∙ ap (λ q. end_nodes q.delimiter pins) c.parasitics.ensures in
    let list : nodes.list ≡ entered (end_nodes p.delimiter pins) (names_on (wire_in n p net (listed n p pins))) =
    c.in_ok-take_nodes.ensures.list ∙ (ap (λ e. entered e (names_on (wire_by c.args.nodes.now.parasitics parts))) ends
    ∙ ap (λ x. entered (end_nodes p.delimiter pins) (names_on x)) (ap (λ q. wire_by q parts) c.requires.nodes ∙ w)) in
    let of_w : wire_by nodes.parasitics parts ≡ wire_of n p net pins = here_w ∙ sym (wire_is n p net pins) in
    let ns = list ∙ (ap (λ x. entered (end_nodes p.delimiter pins) (names_on x)) (sym (wire_is n p net pins)) ∙ sym (nodes_are p.delimiter pins (wire_of n p net pins))) in
    let here = c.is_some.ensures ∙ (sym (some_mapped (λ t. t.now) c.listed-listed.result) ∙ ap is_some c.listed-listed.ensures) in
    IfErr-weaker c.wire_within.result _ _ (is_fault n p net pins (wire_by nodes.parasitics parts) nodes.list c.is_some.result of_w ns here) c.wire_within.ensures.fault

pub end_nodes-requires : goal.end_nodes-requires
end_nodes-requires c = subst (λ (p : Parasitics). IsName (p.delimiter ∷ [])) (sym c.parasitics.ensures) c.requires.parasitics.delimiter

pub wire_within-requires-clause-sinks : goal.wire_within-requires-clause-sinks
wire_within-requires-clause-sinks c = c.requires.sinks

pub returns-clause-nets : goal.returns-clause-nets
returns-clause-nets c = always c.wire_within.result _ (c.in_ok-parts.ensures.same ∙ c.requires.nets)

pub returns-clause-nodes : goal.returns-clause-nodes
returns-clause-nodes c = always c.wire_within.result _ (c.in_ok-take_nodes.ensures.same ∙ c.requires.nodes)
