use Rattle.std.proofs.Common.{◌≡◌, length, ap, arith}
use Rattle.xt_model.specs.Assign.{assigned}
use Rattle.glitch_noise.proofs.Lists.{nets_turn, nets_all, all_there}
use Rattle.glitch_noise.proofs.peaks.noise.Goals as goal

pub loop-number-preserved : goal.loop-number-preserved
loop-number-preserved c =
    let count : length c.nets-number-end.result.now ≡ length c.args.design.now.nets = ap length c.nets-number-end.ensures.value in
    nets_turn c.args.design.now (assigned c.args.high.now) c.loop-number.number _ _ _ (omega (arith, count, c.loop-number-test.true)) c.in_ok-push_peak.ensures c.in_ok-push_peak-2.ensures c.loop-number.invariant

pub returns-clause-peaks : goal.returns-clause-peaks
returns-clause-peaks c =
    let count : length c.nets-number-end.result.now ≡ length c.args.design.now.nets = ap length c.nets-number-end.ensures.value in
    nets_all c.args.design.now (assigned c.args.high.now) c.loop-number.number _ (omega (arith, count, c.loop-number-test.false)) c.loop-number.invariant

pub returns-clause-there : goal.returns-clause-there
returns-clause-there c =
    all_there c.args.design.now (assigned c.args.high.now) 0 (length c.args.design.now.nets) c.args.design.now.nets _ (omega arith) (returns-clause-peaks c)
