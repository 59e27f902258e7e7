use Rattle.std.proofs.lemmas.Result.{err_from_is_err_and}
use Rattle.eco_warm.proofs.Refused.{allowed, first_impossible, one_heavy, second_impossible}
use Rattle.eco_warm.proofs.design.nets_after.Goals as goal

pub returns-in_err-first-clause-refusal : goal.returns-in_err-first-clause-refusal
returns-in_err-first-clause-refusal c =
    let failed = err_from_is_err_and c.from_residual.result c.from_residual.ensures.1 in
    rw failed.1 (rw failed.2 (first_impossible c.args.edit.now c.args.design.now.nets c.in_err-first.field-0.0 (rw (c.moving-moving.ensures, c.nets.ensures.first, c.nets.ensures.second) at c.in_err-first.ensures.impossible)))

pub returns-in_err-first-clause-first : goal.returns-in_err-first-clause-first
returns-in_err-first-clause-first c = rw (err_from_is_err_and c.from_residual.result c.from_residual.ensures.1).1 tt

pub returns-in_err-first-clause-second : goal.returns-in_err-first-clause-second
returns-in_err-first-clause-second c = rw (err_from_is_err_and c.from_residual.result c.from_residual.ensures.1).1 tt

pub returns-in_err-first-clause-allowed : goal.returns-in_err-first-clause-allowed
returns-in_err-first-clause-allowed c = rw (err_from_is_err_and c.from_residual.result c.from_residual.ensures.1).1 tt

pub returns-in_err-second-clause-refusal : goal.returns-in_err-second-clause-refusal
returns-in_err-second-clause-refusal c =
    let failed = err_from_is_err_and c.from_residual-in_err-second.result c.from_residual-in_err-second.ensures.1 in
    rw failed.1 (rw failed.2 (second_impossible c.args.edit.now c.args.design.now.nets c.in_err-second.field-0.0 (rw (c.moving-moving.ensures, c.nets.ensures.first, c.nets.ensures.second) at c.in_err-second.ensures.impossible)))

pub returns-in_err-second-clause-first : goal.returns-in_err-second-clause-first
returns-in_err-second-clause-first c = rw (err_from_is_err_and c.from_residual-in_err-second.result c.from_residual-in_err-second.ensures.1).1 tt

pub returns-in_err-second-clause-second : goal.returns-in_err-second-clause-second
returns-in_err-second-clause-second c = rw (err_from_is_err_and c.from_residual-in_err-second.result c.from_residual-in_err-second.ensures.1).1 tt

pub returns-in_err-second-clause-allowed : goal.returns-in_err-second-clause-allowed
returns-in_err-second-clause-allowed c = rw (err_from_is_err_and c.from_residual-in_err-second.result c.from_residual-in_err-second.ensures.1).1 tt

pub returns-in_err-check_loads-clause-refusal : goal.returns-in_err-check_loads-clause-refusal
returns-in_err-check_loads-clause-refusal c =
    let failed = err_from_is_err_and c.from_residual-in_err-check_loads.result c.from_residual-in_err-check_loads.ensures.1 in
    rw failed.1 (rw failed.2 (one_heavy c.args.edit.now c.args.design.now.nets c.in_ok-first.first c.in_ok-second.second c.in_err-check_loads.field-0.0 (rw (c.moving-moving.ensures, c.nets.ensures.first, c.nets.ensures.second) at c.in_ok-first.ensures.ok) (rw (c.moving-moving.ensures, c.nets.ensures.first, c.nets.ensures.second) at c.in_ok-second.ensures.ok)
    (rw (c.moving-moving.ensures, c.nets.ensures.first, c.nets.ensures.second) at c.in_ok-first.ensures.possible) (rw (c.moving-moving.ensures, c.nets.ensures.first, c.nets.ensures.second) at c.in_ok-second.ensures.possible) (rw (c.nets.ensures.first, c.nets.ensures.second) at c.in_err-check_loads.ensures.heavy)))

pub returns-in_err-check_loads-clause-first : goal.returns-in_err-check_loads-clause-first
returns-in_err-check_loads-clause-first c = rw (err_from_is_err_and c.from_residual-in_err-check_loads.result c.from_residual-in_err-check_loads.ensures.1).1 tt

pub returns-in_err-check_loads-clause-second : goal.returns-in_err-check_loads-clause-second
returns-in_err-check_loads-clause-second c = rw (err_from_is_err_and c.from_residual-in_err-check_loads.result c.from_residual-in_err-check_loads.ensures.1).1 tt

pub returns-in_err-check_loads-clause-allowed : goal.returns-in_err-check_loads-clause-allowed
returns-in_err-check_loads-clause-allowed c = rw (err_from_is_err_and c.from_residual-in_err-check_loads.result c.from_residual-in_err-check_loads.ensures.1).1 tt

pub returns-clause-first : goal.returns-clause-first
returns-clause-first c = rw (c.moving-moving.ensures, c.nets.ensures.first, c.nets.ensures.second) at c.in_ok-first.ensures.ok

pub returns-clause-second : goal.returns-clause-second
returns-clause-second c = rw (c.moving-moving.ensures, c.nets.ensures.first, c.nets.ensures.second) at c.in_ok-second.ensures.ok

pub returns-clause-allowed : goal.returns-clause-allowed
returns-clause-allowed c =
    allowed c.args.edit.now c.args.design.now.nets c.in_ok-first.first c.in_ok-second.second (rw (c.moving-moving.ensures, c.nets.ensures.first, c.nets.ensures.second) at c.in_ok-first.ensures.ok) (rw (c.moving-moving.ensures, c.nets.ensures.first, c.nets.ensures.second) at c.in_ok-second.ensures.ok)
    (rw (c.moving-moving.ensures, c.nets.ensures.first, c.nets.ensures.second) at c.in_ok-first.ensures.possible) (rw (c.moving-moving.ensures, c.nets.ensures.first, c.nets.ensures.second) at c.in_ok-second.ensures.possible) c.in_ok-check_loads.ensures.first c.in_ok-check_loads.ensures.second

pub returns-clause-refusal : goal.returns-clause-refusal
returns-clause-refusal c = tt
