use Rattle.std.proofs.Common.{◌≡◌, ◌-◌, [], ◌∷◌, suc, refl, arith}
use Rattle.std.proofs.lemmas.Result.{err_from_is_err_and}
use Rattle.linked_text.specs.Meaning.{many_at}
use Rattle.linked_text.proofs.Loop.{goes_on, ends, is_done, many_next}
use Rattle.linked_text.proofs.read_line.read_many.Goals as goal

pub returns-in_err-value : goal.returns-in_err-value
returns-in_err-value g c =
    let at = g.R.FrontReader.at c.args.reader.now in
    let p = err_from_is_err_and c.from_residual-in_err-value.result c.from_residual-in_err-value.ensures.1 in
    let more : c.loop-left.left ≡ suc (c.loop-left.left - 1) = omega (arith, c.loop-left-test.true) in
    rw (p.1, p.2) (ends c.in_err-value.field-0.0 c.loop-left.values.items (at c.loop-left.rest.now)
    (many_at at c.loop-left.left c.loop-left.rest.now) _ (λ f refused. rw (more, refused) refl) c.in_err-value.ensures c.loop-left.invariant)

pub loop-left-preserved : goal.loop-left-preserved
loop-left-preserved g c =
    let at = g.R.FrontReader.at c.args.reader.now in
    let more : c.loop-left.left ≡ suc (c.loop-left.left - 1) = omega (arith, c.loop-left-test.true) in
    rw c.in_ok-push.ensures.items (goes_on c.loop-left.values.items (c.in_ok-value.value ∷ []) (many_at at c.loop-left.left c.loop-left.rest.now) _ _
    (many_next at c.loop-left.left _ c.loop-left.rest.now _ _ more c.in_ok-value.ensures) c.loop-left.invariant)

pub returns : goal.returns
returns g c =
    let at = g.R.FrontReader.at c.args.reader.now in
    let none : c.loop-left.left ≡ 0 = omega (arith, c.loop-left-test.false) in
    rw c.shrink_to_fit.ensures.items (is_done c.loop-left.values.items c.loop-left.rest.now (many_at at c.loop-left.left c.loop-left.rest.now) _ (rw none refl) c.loop-left.invariant)
