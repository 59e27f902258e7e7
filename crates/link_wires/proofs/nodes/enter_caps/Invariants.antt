use Rattle.std.proofs.Common.{◌≡◌, map, fold, length}
use Rattle.std.specs.List.{All}
use Rattle.name_numbers.specs.Names.{with_name}
use Rattle.xt_model.specs.Names.{IsName}
use Rattle.link_wires.specs.Seen.{cap_node}
use Rattle.link_wires.proofs.nodes.enter_caps.Given as goal

abbrev pub invariant-caps : goal.invariant-caps
invariant-caps l = record {
  same : l.nodes.parasitics ≡ l.fn.nodes.parasitics;
  value : fold (λ list name. with_name name list) l.nodes.list (map (cap_node l.fn.nodes.parasitics) l.rest)
      ≡ fold (λ list name. with_name name list) l.fn.nodes.list (map (cap_node l.fn.nodes.parasitics) l.caps);
  names : All IsName (map (cap_node l.fn.nodes.parasitics) l.rest);
}

abbrev pub decreases-caps : goal.decreases-caps
decreases-caps l = length l.rest
