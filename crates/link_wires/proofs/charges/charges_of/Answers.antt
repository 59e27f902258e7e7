use Rattle.std.proofs.Common.{◌≡◌, ◌+◌, ◌<◌, ◌≤◌, ℕ, List, [], ◌∷◌, ◌++◌, length, map, refl, sym, ap, ◌∙◌, arith, get_or, append_assoc, append-nil, rules, w64}
use Rattle.std.proofs.lemmas.Int.{to_z-of_z}
use mir.Val.{SFits}
use Rattle.std.specs.Prelude.{filter_map}
use Rattle.link_rules.specs.declared.circuit.Sink.{Sink}
use Rattle.link_rules.specs.Wires.{Wire, Charge, sink_node, sink_charges, ground_charge}
use Rattle.link_index.proofs.FirstLaws.{first_and_rest, rest_of}
use Rattle.link_wires.specs.Seen.{cap_by, wire_by}
use Rattle.link_wires.proofs.NodeLaws.{mapped_turn, no_cap}
use Rattle.link_wires.proofs.charges.charges_of.Goals as goal

-- one sink more
sinks_turn : (w : Wire) (k : ℕ) (rest : List Sink) (x : Sink) (old new : List Charge) → 1 ≤ length rest → x ≡ get_or rest 0 x
    → new ≡ old ++ (sink_node w k, x.cap) ∷ [] → new ++ sink_charges w (k + 1) (rest_of rest) ≡ old ++ sink_charges w k rest
sinks_turn w k rest x old new some is more =
    ap (λ l. l ++ sink_charges w (k + 1) (rest_of rest)) more
    ∙ (append_assoc old ((sink_node w k, x.cap) ∷ []) (sink_charges w (k + 1) (rest_of rest))
    ∙ (ap (λ y. old ++ sink_charges w k (y ∷ rest_of rest)) is ∙ ap (λ l. old ++ sink_charges w k l) (sym (first_and_rest rest x some))))

-- no sink is left
sinks_done : (w : Wire) (k : ℕ) (rest : List Sink) (items all : List Charge) → length rest < 1 → items ++ sink_charges w k rest ≡ all → items ≡ all
sinks_done w k [] items all short e = sym (append-nil items) ∙ e
sinks_done w k (s ∷ rest) items all short e = absurd (omega (arith, short))

pub sinks-preserved : goal.sinks-preserved
sinks-preserved c =
    let w = wire_by c.args.nodes.now.parasitics c.args.wire.now in
    let rest = c.sinks.left.now in
    let x = c.sink-item.result in
    let some = c.in-len1-up.len_at_least in
    let fits : SFits w64 x.cap = search rules in
    let len = ap length (first_and_rest rest x some) in
    let count : c.sinks.k + 1 + length (rest_of rest) ≡ length c.args.sinks.now = omega (arith, c.sinks.invariant.count, len) in
    let more : c.push.new.self.items ≡ c.sinks.charges.items ++ (sink_node w c.sinks.k, x.cap) ∷ [] =
    c.in_ok-push.ensures.items ∙ (ap (λ v. c.sinks.charges.items ++ (c.sink_node.result, v) ∷ []) (to_z-of_z w64 x.cap fits)
    ∙ ap (λ m. c.sinks.charges.items ++ (m, x.cap) ∷ []) c.sink_node.ensures) in
    record {
      count = count;
      value = sinks_turn w c.sinks.k rest x c.sinks.charges.items c.push.new.self.items some c.sink-item.is more ∙ c.sinks.invariant.value;
    }

pub caps-init : goal.caps-init
caps-init c =
    let p = c.args.nodes.now.parasitics in
    let w = wire_by p c.args.wire.now in
    let f = ground_charge c.args.nodes.now.list w in
    let front = sinks_done w c.sinks.k c.sinks.left.now c.sinks.charges.items (sink_charges w 0 c.args.sinks.now) c.in_default.len_below c.sinks.invariant.value in
    ap (λ cs. c.sinks.charges.items ++ filter_map f (map (cap_by p) cs)) c.as_slice-caps.ensures.value
    ∙ ap (λ l. l ++ filter_map f (map (cap_by p) c.args.wire.now.caps.items)) front

pub caps-preserved : goal.caps-preserved
caps-preserved c =
    let p = c.args.nodes.now.parasitics in
    mapped_turn (cap_by p) (ground_charge c.args.nodes.now.list (wire_by p c.args.wire.now)) c.caps.caps.now no_cap (get_or c.caps.caps.now 0 no_cap) c.caps.charges.items
    c.add_ground.new.charges.items c.in-len1-up-caps.len_at_least refl c.in_ok-add_ground.ensures
    ∙ c.caps.invariant
