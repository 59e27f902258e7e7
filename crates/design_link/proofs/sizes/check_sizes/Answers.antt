use Rattle.std.specs.Prelude.{length, None, Err}
use Rattle.std.specs.List.{sum_by}
use Rattle.std.proofs.lemmas.Result.{err_from_is_err_and}
use Rattle.xt_model.specs.declared.fault.LimitKind.TheVariants as limits
use Rattle.xt_model.specs.Limits.{most_tables, most_couplings, most_coefficients, most_arcs}
use Rattle.xt_model.specs.Sound.{coefficients_of}
use Rattle.link_rules.specs.Limits.{passed}
use Rattle.link_pins.specs.Answers.{Tests}
use Rattle.design_link.specs.Sizes.{plain_nets, sizes_fault}
use Rattle.design_link.proofs.StageLaws.{found_first, found_behind, behind}
use Rattle.design_link.proofs.sizes.check_sizes.Goals as goal

pub returns-in_err-within : goal.returns-in_err-within
returns-in_err-within c =
    let h : Tests {A = Unit {0}} (sizes_fault c.couplings_in_all.result (sum_by coefficients_of (plain_nets c.args.nets.now c.args.wires.now)) c.args.counts.arcs (length c.args.library.now.tables) c.args.counts.checks) (Err c.in_err-within.field-0.0) =
    found_first (passed limits.Couplings None c.couplings_in_all.result most_couplings) _ c.in_err-within.field-0.0 c.in_err-within.ensures in
    let p = err_from_is_err_and c.from_residual.result c.from_residual.ensures.1 in
    rw (p.1, p.2, ← c.couplings_in_all.ensures) h

pub returns-in_err-within-2 : goal.returns-in_err-within-2
returns-in_err-within-2 c =
    let h : Tests {A = Unit {0}} (sizes_fault c.couplings_in_all.result c.coefficients_in_all-coefficients.result c.args.counts.arcs (length c.args.library.now.tables) c.args.counts.checks) (Err c.in_err-within-2.field-0.0) =
    found_behind (passed limits.Couplings None c.couplings_in_all.result most_couplings) _ c.in_err-within-2.field-0.0 c.in_ok-within.ensures (found_first (passed limits.Coefficients None c.coefficients_in_all-coefficients.result most_coefficients) _ c.in_err-within-2.field-0.0 c.in_err-within-2.ensures) in
    let p = err_from_is_err_and c.from_residual-in_err-within-2.result c.from_residual-in_err-within-2.ensures.1 in
    rw (p.1, p.2, ← c.couplings_in_all.ensures, ← c.coefficients_in_all-coefficients.ensures) h

pub returns-in_err-within-3 : goal.returns-in_err-within-3
returns-in_err-within-3 c =
    let h : Tests {A = Unit {0}} (sizes_fault c.couplings_in_all.result c.coefficients_in_all-coefficients.result c.args.counts.arcs (length c.args.library.now.tables) c.args.counts.checks) (Err c.in_err-within-3.field-0.0) =
    found_behind (passed limits.Couplings None c.couplings_in_all.result most_couplings) _ c.in_err-within-3.field-0.0 c.in_ok-within.ensures (found_behind (passed limits.Coefficients None c.coefficients_in_all-coefficients.result most_coefficients) _ c.in_err-within-3.field-0.0 c.in_ok-within-2.ensures (found_first (passed limits.Arcs None c.args.counts.arcs most_arcs) _ c.in_err-within-3.field-0.0 c.in_err-within-3.ensures)) in
    let p = err_from_is_err_and c.from_residual-in_err-within-3.result c.from_residual-in_err-within-3.ensures.1 in
    rw (p.1, p.2, ← c.couplings_in_all.ensures, ← c.coefficients_in_all-coefficients.ensures) h

pub returns-in_err-within-4 : goal.returns-in_err-within-4
returns-in_err-within-4 c =
    let h : Tests {A = Unit {0}} (sizes_fault c.couplings_in_all.result c.coefficients_in_all-coefficients.result c.args.counts.arcs c.len.result c.args.counts.checks) (Err c.in_err-within-4.field-0.0) =
    found_behind (passed limits.Couplings None c.couplings_in_all.result most_couplings) _ c.in_err-within-4.field-0.0 c.in_ok-within.ensures (found_behind (passed limits.Coefficients None c.coefficients_in_all-coefficients.result most_coefficients) _ c.in_err-within-4.field-0.0 c.in_ok-within-2.ensures (found_behind (passed limits.Arcs None c.args.counts.arcs most_arcs) _ c.in_err-within-4.field-0.0 c.in_ok-within-3.ensures (found_first (passed limits.Tables None c.len.result most_tables) _ c.in_err-within-4.field-0.0 c.in_err-within-4.ensures))) in
    let p = err_from_is_err_and c.from_residual-in_err-within-4.result c.from_residual-in_err-within-4.ensures.1 in
    rw (p.1, p.2, ← c.couplings_in_all.ensures, ← c.coefficients_in_all-coefficients.ensures, ← c.len.ensures) h

pub returns : goal.returns
returns c =
    rw (← c.couplings_in_all.ensures, ← c.coefficients_in_all-coefficients.ensures, ← c.len.ensures)
    (behind (passed limits.Couplings None c.couplings_in_all.result most_couplings) _ c.within-5.result c.in_ok-within.ensures (behind (passed limits.Coefficients None c.coefficients_in_all-coefficients.result most_coefficients) _ c.within-5.result c.in_ok-within-2.ensures (behind (passed limits.Arcs None c.args.counts.arcs most_arcs) _ c.within-5.result c.in_ok-within-3.ensures (behind (passed limits.Tables None c.len.result most_tables) _ c.within-5.result c.in_ok-within-4.ensures (c.within-5.ensures)))))
