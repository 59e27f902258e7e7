use Rattle.std.proofs.lemmas.Result.{err_from_is_err_and}
use Rattle.linked_text.specs.Meaning.{net_at}
use Rattle.linked_text.proofs.Loop.{fails_here, fails_later}
use Rattle.linked_text.proofs.bodies.net.Goals as goal

pub returns-in_err-given : goal.returns-in_err-given
unfolding net_at
returns-in_err-given c =
    let failed = err_from_is_err_and c.from_residual.result c.from_residual.ensures.1 in
    rw (failed.1, failed.2) (fails_here c.in_err-given.field-0.0 _ _ c.in_err-given.ensures)

pub returns-in_err-couplings : goal.returns-in_err-couplings
unfolding net_at
returns-in_err-couplings c =
    let failed = err_from_is_err_and c.from_residual-in_err-couplings.result c.from_residual-in_err-couplings.ensures.1 in
    rw (failed.1, failed.2) (fails_later c.in_err-couplings.field-0.0 _ (c.in_ok-given.ensures) (fails_here c.in_err-couplings.field-0.0 _ _ c.in_err-couplings.ensures))

pub returns-in_err-pins : goal.returns-in_err-pins
unfolding net_at
returns-in_err-pins c =
    let failed = err_from_is_err_and c.from_residual-in_err-pins.result c.from_residual-in_err-pins.ensures.1 in
    rw (failed.1, failed.2) (fails_later c.in_err-pins.field-0.0 _ (c.in_ok-given.ensures) (fails_later c.in_err-pins.field-0.0 _ c.in_ok-couplings.ensures (fails_here c.in_err-pins.field-0.0 _ _ c.in_err-pins.ensures)))

pub returns-in_err-arcs : goal.returns-in_err-arcs
unfolding net_at
returns-in_err-arcs c =
    let failed = err_from_is_err_and c.from_residual-in_err-arcs.result c.from_residual-in_err-arcs.ensures.1 in
    rw (failed.1, failed.2) (fails_later c.in_err-arcs.field-0.0 _ (c.in_ok-given.ensures) (fails_later c.in_err-arcs.field-0.0 _ c.in_ok-couplings.ensures (fails_later c.in_err-arcs.field-0.0 _ (c.in_ok-pins.ensures) (fails_here c.in_err-arcs.field-0.0 _ _ c.in_err-arcs.ensures))))
