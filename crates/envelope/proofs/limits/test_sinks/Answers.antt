use Rattle.std.proofs.Common.{arith}
use Rattle.std.proofs.lemmas.Result.{err_from_is_err_and}
use Rattle.envelope.proofs.Firsts.{sinks_on, sinks_at}
use Rattle.envelope.proofs.limits.test_sinks.Goals as goal

pub returns-in_err-test_sink : goal.returns-in_err-test_sink
returns-in_err-test_sink c =
    let v = c.args.victim.now in
    let p = err_from_is_err_and c.from_residual.result c.from_residual.ensures.1 in
    rw (p.1, p.2) (sinks_at v.miller v.number v.net c.args.quad.now c.loop-sink.sink c.args.sinks _ (omega (arith, c.loop-sink-test.true)) c.loop-sink.invariant c.in_err-test_sink.ensures)

pub loop-sink-preserved : goal.loop-sink-preserved
loop-sink-preserved c =
    let v = c.args.victim.now in
    sinks_on v.miller v.number v.net c.args.quad.now c.loop-sink.sink c.loop-sink.invariant c.in_ok-test_sink.ensures
