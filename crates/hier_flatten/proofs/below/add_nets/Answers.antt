use Rattle.std.proofs.Common.{arith, ◌∙◌}
use Rattle.hier_flatten.proofs.BelowLaws.{nets_more, nets_all}
use Rattle.hier_flatten.proofs.below.add_nets.Goals as goal

pub loop-number-preserved : goal.loop-number-preserved
loop-number-preserved c = record {
  nets = nets_more c.args.nets.now c.loop-number.number c.args.growing.now c.loop-number.growing c.add_own.new.growing _ c.get.ensures
      c.args.path.now.items c.loop-number.path.items c.args.wires.now _ c.wire_at.ensures c.loop-number.invariant.path c.in_ok-add_own.ensures.nets c.loop-number.invariant.nets;
  path = c.in_ok-add_own.ensures.kept ∙ c.loop-number.invariant.path;
}

pub returns-clause-nets : goal.returns-clause-nets
returns-clause-nets c =
    nets_all c.args.path.now.items c.args.nets.now c.args.wires.now c.loop-number.number c.args.growing.now c.loop-number.growing
    (omega (arith, c.len-number-end.ensures, c.loop-number-test.false)) c.loop-number.invariant.nets
