use Rattle.std.proofs.Common.{◌≡◌, fold, length}
use Rattle.std.specs.Prelude.{flat_map}
use Rattle.std.specs.List.{All}
use Rattle.name_numbers.specs.Names.{with_name}
use Rattle.xt_model.specs.Names.{IsName}
use Rattle.link_wires.specs.Seen.{both_nodes}
use Rattle.link_wires.proofs.nodes.enter_resistors.Given as goal

abbrev pub invariant-resistors : goal.invariant-resistors
invariant-resistors l = record {
  same : l.nodes.parasitics ≡ l.fn.nodes.parasitics;
  value : fold (λ list name. with_name name list) l.nodes.list (flat_map (both_nodes l.fn.nodes.parasitics) l.rest)
      ≡ fold (λ list name. with_name name list) l.fn.nodes.list (flat_map (both_nodes l.fn.nodes.parasitics) l.resistors);
  names : All IsName (flat_map (both_nodes l.fn.nodes.parasitics) l.rest);
}

abbrev pub decreases-resistors : goal.decreases-resistors
decreases-resistors l = length l.rest
