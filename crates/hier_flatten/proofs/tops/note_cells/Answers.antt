use Rattle.hier_flatten.proofs.TopsLaws.{one_noted}
use Rattle.hier_flatten.proofs.tops.note_cells.Goals as goal

pub instances-preserved : goal.instances-preserved
instances-preserved c =
    one_noted c.instances.rest.now _ c.instance-item.result c.bytes.result.now _ c.args.instances.now c.args.cells.now c.instances.cells c.set.new.self
    c.in-len1-up.len_at_least c.instance-item.is c.bytes.ensures c.in_ok-set.ensures.given c.instances.invariant
