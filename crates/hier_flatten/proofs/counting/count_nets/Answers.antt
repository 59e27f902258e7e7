use Rattle.std.proofs.Common.{arith}
use Rattle.hier_flatten.proofs.BelowLaws.{count_more, count_all}
use Rattle.hier_flatten.proofs.counting.count_nets.Goals as goal

pub loop-number-preserved : goal.loop-number-preserved
loop-number-preserved c =
    count_more c.args.nets.now c.args.wires.now c.loop-number.number c.args.tally.now c.loop-number.tally c.count_own.new.tally _ _ c.get.ensures c.wire_at.ensures
    c.in_ok-count_own.ensures c.loop-number.invariant

pub returns : goal.returns
returns c =
    count_all c.args.nets.now c.args.wires.now c.loop-number.number c.args.tally.now c.loop-number.tally
    (omega (arith, c.len-number-end.ensures, c.loop-number-test.false)) c.loop-number.invariant
