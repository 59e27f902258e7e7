use Rattle.std.proofs.Common.{ℕ, List, sym}
use Rattle.verilog_net.specs.declared.netlist.Net.{Net}
use Rattle.hier_flatten.specs.Names.{is_long}
use Rattle.hier_flatten.proofs.NamesLaws.{any_more, any_found}
use Rattle.hier_flatten.proofs.names.has_long_net.Goals as goal

pub returns-then-is_long_net : goal.returns-then-is_long_net
returns-then-is_long_net c =
    sym (any_found (λ (net : List ℕ × Net). is_long net.0) c.args.nets.now c.loop-number.number _ c.is_long_net.result c.get.ensures c.is_long_net.ensures c.if-is_long_net.true)

pub loop-number-preserved : goal.loop-number-preserved
loop-number-preserved c =
    any_more (λ (net : List ℕ × Net). is_long net.0) c.args.nets.now c.loop-number.number _ c.is_long_net.result c.get.ensures c.is_long_net.ensures c.if-is_long_net.false c.loop-number.invariant
