use Rattle.std.proofs.Common.{◌≡◌, rules}
use Rattle.name_numbers.specs.Names.{value_of}
use Rattle.hier_flatten.proofs.SliceLaws.{map_turn}
use Rattle.hier_flatten.proofs.index.links_of.Goals as goal

pub instances-preserved : goal.instances-preserved
instances-preserved c =
    let link : c.copied.result ≡ value_of c.instance-item.result.cell c.args.numbers.now = search rules in
    map_turn (λ i. value_of i.cell c.args.numbers.now) c.instances.rest.now _ c.instance-item.result c.copied.result c.instances.links.items c.push.new.self.items _
    c.in-len1-up.len_at_least c.instance-item.is link c.in_ok-push.ensures.items c.instances.invariant
