use Rattle.std.proofs.Common.{arith}
use Rattle.aggressor_report.proofs.Picked.{net_counts, nets_count}
use Rattle.aggressor_report.proofs.count.guilty_count.Goals as goal

pub loop-number-preserved : goal.loop-number-preserved
loop-number-preserved c =
    let inv = c.loop-number.invariant in
    let number = c.loop-number.auto.number in
    let rise = c.edge_count-count.ensures.few in
    let fall = c.edge_count-count-in-loop-number.ensures.few in
    let few = inv.few in
    record {
      counted = net_counts c.args.design.now c.args.low.now c.args.high.now c.args.to c.loop-number.number _ _ _ _
          c.loop-number-test.true c.requires.end c.edge_count-count.ensures.count c.edge_count-count-in-loop-number.ensures.count inv.counted;
      few = omega (arith, number, rise, fall, few);
    }

pub returns-clause-count : goal.returns-clause-count
returns-clause-count c =
    nets_count c.args.design.now c.args.low.now c.args.high.now c.args.to c.loop-number.number _ _ c.loop-number-test.false c.requires.end c.loop-number.invariant.counted
