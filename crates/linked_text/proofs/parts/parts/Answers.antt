use Rattle.std.proofs.Common.{refl}
use Rattle.std.proofs.lemmas.Result.{err_from_is_err_and}
use Rattle.linked_text.specs.Meaning.{parts_at}
use Rattle.linked_text.proofs.Inversions.{goes_on}
use Rattle.linked_text.proofs.Loop.{fails_here, fails_later}
use Rattle.linked_text.proofs.parts.parts.Goals as goal

pub returns-in_err-version : goal.returns-in_err-version
unfolding parts_at
returns-in_err-version c =
    let failed = err_from_is_err_and c.from_residual.result c.from_residual.ensures.1 in
    rw (failed.1, failed.2) (fails_here c.in_err-version.field-0.0 _ _ (rw c.as_slice.ensures.value at c.in_err-version.ensures))

pub returns-in_err-counts : goal.returns-in_err-counts
unfolding parts_at
returns-in_err-counts c =
    let failed = err_from_is_err_and c.from_residual-in_err-counts.result c.from_residual-in_err-counts.ensures.1 in
    rw (failed.1, failed.2) (fails_later c.in_err-counts.field-0.0 _ (rw c.as_slice.ensures.value at c.in_ok-version.ensures) (fails_here c.in_err-counts.field-0.0 _ _ c.in_err-counts.ensures))

pub returns-in_err-period : goal.returns-in_err-period
unfolding parts_at
returns-in_err-period c =
    let failed = err_from_is_err_and c.from_residual-in_err-period.result c.from_residual-in_err-period.ensures.1 in
    rw (failed.1, failed.2) (fails_later c.in_err-period.field-0.0 _ (rw c.as_slice.ensures.value at c.in_ok-version.ensures) (fails_later c.in_err-period.field-0.0 _ (c.in_ok-counts.ensures) (fails_here c.in_err-period.field-0.0 _ _ c.in_err-period.ensures)))

pub returns-in_err-miller : goal.returns-in_err-miller
unfolding parts_at
returns-in_err-miller c =
    let failed = err_from_is_err_and c.from_residual-in_err-miller.result c.from_residual-in_err-miller.ensures.1 in
    rw (failed.1, failed.2) (fails_later c.in_err-miller.field-0.0 _ (rw c.as_slice.ensures.value at c.in_ok-version.ensures) (fails_later c.in_err-miller.field-0.0 _ (c.in_ok-counts.ensures) (fails_later c.in_err-miller.field-0.0 _ (c.in_ok-period.ensures) (fails_here c.in_err-miller.field-0.0 _ _ c.in_err-miller.ensures))))

pub returns-in_err-tables : goal.returns-in_err-tables
unfolding parts_at
returns-in_err-tables c =
    let failed = err_from_is_err_and c.from_residual-in_err-tables.result c.from_residual-in_err-tables.ensures.1 in
    rw (failed.1, failed.2) (fails_later c.in_err-tables.field-0.0 _ (rw c.as_slice.ensures.value at c.in_ok-version.ensures) (fails_later c.in_err-tables.field-0.0 _ (c.in_ok-counts.ensures) (fails_later c.in_err-tables.field-0.0 _ (c.in_ok-period.ensures) (fails_later c.in_err-tables.field-0.0 _ (c.in_ok-miller.ensures) (fails_here c.in_err-tables.field-0.0 _ _ c.in_err-tables.ensures)))))

pub returns-in_err-heads : goal.returns-in_err-heads
unfolding parts_at
returns-in_err-heads c =
    let failed = err_from_is_err_and c.from_residual-in_err-heads.result c.from_residual-in_err-heads.ensures.1 in
    rw (failed.1, failed.2) (fails_later c.in_err-heads.field-0.0 _ (rw c.as_slice.ensures.value at c.in_ok-version.ensures) (fails_later c.in_err-heads.field-0.0 _ (c.in_ok-counts.ensures) (fails_later c.in_err-heads.field-0.0 _ (c.in_ok-period.ensures) (fails_later c.in_err-heads.field-0.0 _ (c.in_ok-miller.ensures) (fails_later c.in_err-heads.field-0.0 _ (c.in_ok-tables.ensures) (fails_here c.in_err-heads.field-0.0 _ _ c.in_err-heads.ensures))))))

pub returns-in_err-nets : goal.returns-in_err-nets
unfolding parts_at
returns-in_err-nets c =
    let failed = err_from_is_err_and c.from_residual-in_err-nets.result c.from_residual-in_err-nets.ensures.1 in
    rw (failed.1, failed.2) (fails_later c.in_err-nets.field-0.0 _ (rw c.as_slice.ensures.value at c.in_ok-version.ensures) (fails_later c.in_err-nets.field-0.0 _ (c.in_ok-counts.ensures) (fails_later c.in_err-nets.field-0.0 _ (c.in_ok-period.ensures) (fails_later c.in_err-nets.field-0.0 _ (c.in_ok-miller.ensures) (fails_later c.in_err-nets.field-0.0 _ (c.in_ok-tables.ensures) (fails_later c.in_err-nets.field-0.0 _ (c.in_ok-heads.ensures) (fails_here c.in_err-nets.field-0.0 _ _ (rw (c.as_slice-3.ensures.value, c.in_ok-sinks.ensures, c.as_slice-2.ensures.value, c.in_ok-bodies.ensures.items) at c.in_err-nets.ensures))))))))

pub returns-in_err-checks : goal.returns-in_err-checks
unfolding parts_at
returns-in_err-checks c =
    let failed = err_from_is_err_and c.from_residual-in_err-checks.result c.from_residual-in_err-checks.ensures.1 in
    rw (failed.1, failed.2) (fails_later c.in_err-checks.field-0.0 _ (rw c.as_slice.ensures.value at c.in_ok-version.ensures) (fails_later c.in_err-checks.field-0.0 _ (c.in_ok-counts.ensures) (fails_later c.in_err-checks.field-0.0 _ (c.in_ok-period.ensures) (fails_later c.in_err-checks.field-0.0 _ (c.in_ok-miller.ensures) (fails_later c.in_err-checks.field-0.0 _ (c.in_ok-tables.ensures) (fails_later c.in_err-checks.field-0.0 _ (c.in_ok-heads.ensures) (fails_later c.in_err-checks.field-0.0 _ (rw (c.as_slice-3.ensures.value, c.in_ok-sinks.ensures, c.as_slice-2.ensures.value, c.in_ok-bodies.ensures.items) at c.in_ok-nets.ensures) (fails_here c.in_err-checks.field-0.0 _ _ (rw (c.is_some.ensures, c.as_slice-4.ensures.value, c.in_ok-sinks.ensures, c.as_slice-2.ensures.value, c.as_slice-5.ensures.value) at c.in_err-checks.ensures)))))))))

pub returns : goal.returns
unfolding parts_at
returns c =
    goes_on _ (rw c.as_slice.ensures.value at c.in_ok-version.ensures) (goes_on _ (c.in_ok-counts.ensures) (goes_on _ (c.in_ok-period.ensures) (goes_on _ (c.in_ok-miller.ensures) (goes_on _ (c.in_ok-tables.ensures) (goes_on _ (c.in_ok-heads.ensures) (goes_on _ (rw (c.as_slice-3.ensures.value, c.in_ok-sinks.ensures, c.as_slice-2.ensures.value, c.in_ok-bodies.ensures.items) at c.in_ok-nets.ensures) (goes_on _ (rw (c.is_some.ensures, c.as_slice-4.ensures.value, c.in_ok-sinks.ensures, c.as_slice-2.ensures.value, c.as_slice-5.ensures.value) at c.in_ok-checks.ensures) (rw (c.from_vec.ensures, c.from_vec-2.ensures, c.from_vec-3.ensures, c.in_ok-last.ensures.items) refl))))))))
