use Rattle.std.proofs.Common.{◌≡◌, ◌∙◌, subst, ℤ}
use Rattle.std.proofs.lemmas.Result.{err_from_is_err_and}
use Rattle.xt_meaning.specs.Envelope.{first_over}
use Rattle.envelope.specs.Firsts.{passed_test, driver_tests, wire_tests}
use Rattle.envelope.proofs.Firsts.{wire_kept, over_on, over_at}
use Rattle.envelope.proofs.limits.test_with_wire.Goals as goal

pub returns-in_err-test_driver : goal.returns-in_err-test_driver
returns-in_err-test_driver c =
    let q = c.args.quad.now in
    let p = err_from_is_err_and c.from_residual.result c.from_residual.ensures.1 in
    rw (p.1, p.2) (over_at (driver_tests c.args.net.0 q) (wire_tests c.args.net.0 q c.args.wire) _ c.in_err-test_driver.ensures)

pub returns : goal.returns
returns c =
    let n = c.args.net.0 in
    let q = c.args.quad.now in
    let w = c.args.wire in
    let P : ℤ → Type 0 = λ wire. passed_test c.test_wire.result ≡ first_over (wire_tests n q wire) in
    subst P (wire_kept w c.requires.wire.low c.requires.wire.high) c.test_wire.ensures ∙ over_on (driver_tests n q) (wire_tests n q w) c.in_ok-test_driver.ensures
