use Rattle.std.proofs.Common.{◌∙◌, ap, refl, get_or}
use Rattle.name_numbers.specs.Names.{with_name}
use Rattle.link_rules.specs.Nodes.{text_of}
use Rattle.link_wires.specs.Seen.{cap_node}
use Rattle.link_wires.proofs.NodeLaws.{fold_turn, names_rest, no_cap}
use Rattle.link_wires.proofs.nodes.enter_caps.Goals as goal

pub caps-preserved : goal.caps-preserved
caps-preserved c =
    let p = c.args.nodes.now.parasitics in
    let rest = c.caps.rest.now in
    let x = get_or rest 0 no_cap in
    record {
      same = c.in_ok-enter.ensures.same ∙ c.caps.invariant.same;
      value =
          fold_turn (cap_node p) rest no_cap x c.caps.nodes.list c.enter.new.self.list c.in-len1-up.len_at_least refl
          (c.in_ok-enter.ensures.list ∙ ap (λ q. with_name (text_of q x.node) c.caps.nodes.list) c.caps.invariant.same)
          ∙ c.caps.invariant.value;
      names = names_rest (cap_node p) rest no_cap c.in-len1-up.len_at_least c.caps.invariant.names;
    }
