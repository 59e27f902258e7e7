use Rattle.std.proofs.Common.{◌≡◌, ◌∙◌, map, fold, sym, ap, subst}
use Rattle.std.specs.Prelude.{flat_map}
use Rattle.std.specs.List.{All}
use Rattle.std.proofs.lemmas.List.Sums.{fold-append}
use Rattle.xt_model.specs.Names.{IsName}
use Rattle.link_wires.specs.Seen.{cap_node, both_nodes}
use Rattle.link_wires.proofs.ListLaws.{all_left, all_right}
use Rattle.link_wires.proofs.NodeLaws.{entering, names_seen}
use Rattle.link_wires.proofs.nodes.take_nodes.Goals as goal

pub enter_caps-requires : goal.enter_caps-requires
enter_caps-requires c =
    let p = c.args.nodes.now.parasitics in
    let caps = c.args.wire.now.caps.items in
    let rs = c.args.wire.now.resistors.now in
    let seen = names_seen p c.args.wire.now in
    let all = subst (All IsName) seen c.requires in
    subst (λ q. All IsName (map (cap_node q) c.deref.result.now)) (sym c.in_ok-start.ensures.same)
    (subst (λ l. All IsName (map (cap_node p) l)) (sym c.deref.ensures.value) (all_left IsName (map (cap_node p) caps) (flat_map (both_nodes p) rs) all))

pub enter_resistors-requires : goal.enter_resistors-requires
enter_resistors-requires c =
    let p = c.args.nodes.now.parasitics in
    let caps = c.args.wire.now.caps.items in
    let rs = c.args.wire.now.resistors.now in
    let seen = names_seen p c.args.wire.now in
    let all = subst (All IsName) seen c.requires in
    let same = c.in_ok-enter_caps.ensures.same ∙ c.in_ok-start.ensures.same in
    subst (λ q. All IsName (flat_map (both_nodes q) rs)) (sym same) (all_right IsName (map (cap_node p) caps) (flat_map (both_nodes p) rs) all)

pub returns-clause-list : goal.returns-clause-list
returns-clause-list c =
    let p = c.args.nodes.now.parasitics in
    let caps = c.args.wire.now.caps.items in
    let rs = c.args.wire.now.resistors.now in
    let seen = names_seen p c.args.wire.now in
    let first = c.start.new.self in
    let second = c.enter_caps.new.nodes in
    let X = map (cap_node p) caps in
    let Y = flat_map (both_nodes p) rs in
    let same = c.in_ok-enter_caps.ensures.same ∙ c.in_ok-start.ensures.same in
    let last = c.in_ok-enter_resistors.ensures.list ∙ ap (λ q. fold entering second.list (flat_map (both_nodes q) rs)) same in
    let before : second.list ≡ fold entering c.args.ends.items X =
    c.in_ok-enter_caps.ensures.list
    ∙ (ap (λ q. fold entering first.list (map (cap_node q) c.deref.result.now)) c.in_ok-start.ensures.same
    ∙ (ap (λ l. fold entering first.list (map (cap_node p) l)) c.deref.ensures.value
    ∙ ap (λ n. fold entering n X) c.in_ok-start.ensures.list)) in
    last ∙ (ap (λ n. fold entering n Y) before ∙ (sym (fold-append entering c.args.ends.items X Y) ∙ ap (λ l. fold entering c.args.ends.items l) (sym seen)))
