use Rattle.std.proofs.lemmas.Result.{err_from_is_err_and}
use Rattle.envelope.proofs.Firsts.{kept, driver_tested, driver_stopped}
use Rattle.envelope.proofs.limits.test_driver.Goals as goal

pub returns : goal.returns
returns c =
    let q = c.args.quad.now in
    driver_tested c.args.net.0 q _ _ _ c.test_slew.result
    (kept q.tlo c.from.result c.requires.tlo c.from.ensures)
    (kept q.thi c.from-2.result c.requires.thi c.from-2.ensures)
    (kept q.shi c.from-3.result c.requires.shi c.from-3.ensures)
    c.in_ok-test_time.ensures c.in_ok-test_time-2.ensures c.test_slew.ensures

pub returns-in_err-test_time-2 : goal.returns-in_err-test_time-2
returns-in_err-test_time-2 c =
    let q = c.args.quad.now in
    let p = err_from_is_err_and c.from_residual-in_err-test_time-2.result c.from_residual-in_err-test_time-2.ensures.1 in
    rw (p.1, p.2) (driver_stopped c.args.net.0 q _ _ _ (kept q.tlo c.from.result c.requires.tlo c.from.ensures) (kept q.thi c.from-2.result c.requires.thi c.from-2.ensures) c.in_ok-test_time.ensures c.in_err-test_time-2.ensures)
