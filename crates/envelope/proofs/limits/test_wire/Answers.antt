use Rattle.std.proofs.lemmas.Result.{err_from_is_err_and}
use Rattle.envelope.proofs.Firsts.{arrival_kept, slew_kept, wire_tested, wire_stopped}
use Rattle.envelope.proofs.limits.test_wire.Goals as goal

pub returns-in_err-test_time : goal.returns-in_err-test_time
returns-in_err-test_time c =
    let q = c.args.quad.now in
    let w = c.requires.wire in
    let p = err_from_is_err_and c.from_residual.result c.from_residual.ensures.1 in
    rw (p.1, p.2) (wire_stopped c.args.net.0 q c.args.wire _ _ (arrival_kept q.thi c.from.result c.args.wire c.requires.range.thi c.from.ensures w.low w.high) c.in_err-test_time.ensures)

pub returns : goal.returns
returns c =
    let q = c.args.quad.now in
    let w = c.requires.wire in
    wire_tested c.args.net.0 q c.args.wire _ _ c.test_slew.result
    (arrival_kept q.thi c.from.result c.args.wire c.requires.range.thi c.from.ensures w.low w.high)
    (slew_kept q.shi c.from-2.result c.args.wire c.slew_growth.result c.requires.range.shi c.from-2.ensures w.low w.high c.slew_growth.ensures.low c.slew_growth.ensures.high c.slew_growth.ensures.value)
    c.in_ok-test_time.ensures c.test_slew.ensures
