use Rattle.std.proofs.Common.{sym}
use Rattle.hier_flatten.specs.Names.{has_bit_name}
use Rattle.hier_flatten.proofs.NamesLaws.{any_more, any_found}
use Rattle.hier_flatten.proofs.names.have_bit_names.Goals as goal

pub returns-then-has_bit_name : goal.returns-then-has_bit_name
returns-then-has_bit_name c =
    sym (any_found (has_bit_name c.args.table.now) c.args.table.now c.loop-number.number _ c.has_bit_name.result c.get.ensures c.has_bit_name.ensures c.if-has_bit_name.true)

pub loop-number-preserved : goal.loop-number-preserved
loop-number-preserved c =
    any_more (has_bit_name c.args.table.now) c.args.table.now c.loop-number.number _ c.has_bit_name.result c.get.ensures c.has_bit_name.ensures c.if-has_bit_name.false c.loop-number.invariant
