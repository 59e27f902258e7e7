use Rattle.std.proofs.Common.{◌≡◌, ◌-◌, ◌+◌, suc, refl, arith, codes}
use Rattle.std.proofs.lemmas.Result.{err_from_is_err_and}
use Rattle.linked_text.specs.EachLine.{row_in}
use Rattle.linked_text.specs.Meaning.{line_at, rows_at}
use Rattle.linked_text.proofs.Loop.{goes_on, ends, is_done}
use Rattle.linked_text.proofs.tables.rows.Goals as goal

pub returns-in_err-row : goal.returns-in_err-row
returns-in_err-row c =
    let p = err_from_is_err_and c.from_residual.result c.from_residual.ensures.1 in
    let more : c.args.count - c.loop.counter ≡ suc (c.args.count - (c.loop.counter + 1)) = omega (arith, c.loop-test.true) in
    rw (p.1, p.2) (ends c.in_err-row.field-0.0 c.loop.values.items (line_at (row_in (codes "row") c.args.columns) c.loop.rest.now) (rows_at (c.args.count - c.loop.counter) c.args.columns c.loop.rest.now) _ (λ f refused. rw (more, refused) refl) c.in_err-row.ensures c.loop.invariant)

pub loop-preserved : goal.loop-preserved
loop-preserved c =
    let more : c.args.count - c.loop.counter ≡ suc (c.args.count - (c.loop.counter + 1)) = omega (arith, c.loop-test.true) in
    rw (c.in_ok-extend_from_slice.ensures.items, c.as_slice.ensures) (goes_on c.loop.values.items c.in_ok-row.row (rows_at (c.args.count - c.loop.counter) c.args.columns c.loop.rest.now) _ _ (rw (more, c.in_ok-row.ensures) refl) c.loop.invariant)

pub returns : goal.returns
returns c =
    let none : c.args.count - c.loop.counter ≡ 0 = omega (arith, c.loop-test.false) in
    rw c.shrink_to_fit.ensures.items (is_done c.loop.values.items c.loop.rest.now (rows_at (c.args.count - c.loop.counter) c.args.columns c.loop.rest.now) _ (rw none refl) c.loop.invariant)
