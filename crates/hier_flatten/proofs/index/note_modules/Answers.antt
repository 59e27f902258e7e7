use Rattle.std.proofs.Common.{length, ap, arith}
use Rattle.hier_flatten.specs.Hierarchy.{numbered}
use Rattle.hier_flatten.proofs.IndexLaws.{one_numbered}
use Rattle.hier_flatten.proofs.SliceLaws.{first_and_rest}
use Rattle.hier_flatten.proofs.index.note_modules.Goals as goal

pub modules-preserved : goal.modules-preserved
modules-preserved c = record {
  part = one_numbered c.modules.numbers c.put_first.new.table c.modules.number c.modules.rest.now _ c.module-item.result c.bytes-name.result.now (numbered 0 c.args.modules.now)
      c.in-len1-up.len_at_least c.module-item.is c.bytes-name.ensures c.in_ok-put_first.ensures c.modules.invariant.part;
  count = let whole = ap length (first_and_rest c.modules.rest.now _ c.module-item.result c.in-len1-up.len_at_least c.module-item.is) in omega (arith, whole, c.modules.invariant.count);
}
