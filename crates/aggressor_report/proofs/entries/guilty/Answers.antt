use Rattle.std.proofs.Common.{length, arith, ap, ◌≡◌}
use Rattle.aggressor_report.proofs.Picked.{nets_turn, nets_end}
use Rattle.aggressor_report.proofs.There.{guilty_there}
use Rattle.aggressor_report.proofs.entries.guilty.Goals as goal

pub loop-number-preserved : goal.loop-number-preserved
loop-number-preserved c =
    let count : length c.nets-number-end.result.now ≡ length c.args.design.now.nets = ap length c.nets-number-end.ensures.value in
    nets_turn c.args.design.now c.args.low.now c.args.high.now _ _ _ _ _
    (omega (arith, count, c.loop-number-test.true)) c.in_ok-push_edge.ensures c.in_ok-push_edge-2.ensures c.loop-number.invariant

pub returns-clause-entries : goal.returns-clause-entries
returns-clause-entries c =
    let count : length c.nets-number-end.result.now ≡ length c.args.design.now.nets = ap length c.nets-number-end.ensures.value in
    nets_end c.args.design.now c.args.low.now c.args.high.now c.loop-number.number _ _ (omega (arith, count, c.loop-number-test.false)) c.loop-number.invariant

pub returns-clause-there : goal.returns-clause-there
returns-clause-there c = guilty_there c.args.design.now c.args.low.now c.args.high.now _ (returns-clause-entries c)
