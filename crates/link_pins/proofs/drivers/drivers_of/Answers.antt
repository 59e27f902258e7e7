use Rattle.std.proofs.lemmas.Result.{err_from_is_err_and}
use Rattle.link_pins.proofs.drivers.drivers_of.Goals as goal

pub returns-in_err-check_drivers-clause-fault : goal.returns-in_err-check_drivers-clause-fault
returns-in_err-check_drivers-clause-fault c =
    let p = err_from_is_err_and c.from_residual-in_err-check_drivers.result c.from_residual-in_err-check_drivers.ensures.1 in
    rw (p.1, p.2) (c.in_err-check_drivers.ensures c.args.cells.now (rw c.deref.ensures.value c.in_ok-drivers.ensures))
