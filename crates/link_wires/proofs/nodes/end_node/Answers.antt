use Rattle.std.proofs.Common.{sym, subst, ◌∙◌}
use Rattle.xt_model.specs.Names.{IsName}
use Rattle.link_wires.proofs.NodeLaws.{end_named}
use Rattle.link_wires.proofs.nodes.end_node.Goals as goal

pub from_slice-requires : goal.from_slice-requires
from_slice-requires c =
    subst IsName (sym (c.as_slice.ensures.value ∙ c.in_ok-write_node.ensures)) (end_named c.args.delimiter c.args.end.now (subst IsName c.name.ensures c.bytes-name.ensures.sound) c.requires)
