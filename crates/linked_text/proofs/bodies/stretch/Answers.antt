use Rattle.std.proofs.Common.{◌∙◌, arith, ap, length}
use Rattle.std.proofs.lemmas.Result.{err_from_is_err_and}
use Rattle.linked_text.proofs.Loop.{behind_next, fails_here}
use Rattle.linked_text.proofs.bodies.stretch.Goals as goal

pub loop-head-preserved : goal.loop-head-preserved
loop-head-preserved c = record {
  whole =
      rw (c.in_ok-push-2.ensures.items, ← c.loop-head.invariant.whole, c.in-Some.ensures) (behind_next c.args.sinks.now c.args.tables c.len-in-Some.result
      c.loop-head.nets.items c.in-Some.head c.head_above.new.heads.items c.loop-head.rest.now _ _ (c.len-in-Some.ensures ∙ c.loop-head.nets.ok.0) c.in_ok-next.ensures);
  fewer = omega (arith, ap length c.in-Some.ensures, c.loop-head.invariant.fewer);
}

pub loop-head-init : goal.loop-head-init
loop-head-init c = record {
  whole =
      rw c.in_ok-push.ensures.items (behind_next c.args.sinks.now c.args.tables c.len.result c.args.nets.now.items c.args.head c.args.heads.now.items
      c.args.bytes.now _ _ (c.len.ensures ∙ c.args.nets.now.ok.0) c.in_ok-first.ensures);
  fewer = omega arith;
}

pub returns-in_err-first-clause-err : goal.returns-in_err-first-clause-err
returns-in_err-first-clause-err c =
    let failed = err_from_is_err_and c.from_residual.result c.from_residual.ensures.1 in
    rw (failed.1, failed.2) (fails_here c.in_err-first.field-0.0 _ _ (fails_here c.in_err-first.field-0.0 _ _ (rw (c.len.ensures ∙ c.args.nets.now.ok.0) at c.in_err-first.ensures)))

pub returns-in_err-next-clause-err : goal.returns-in_err-next-clause-err
returns-in_err-next-clause-err c =
    let failed = err_from_is_err_and c.from_residual-in_err-next.result c.from_residual-in_err-next.ensures.1 in
    rw (failed.1, failed.2, ← c.loop-head.invariant.whole, c.in-Some.ensures) (fails_here c.in_err-next.field-0.0 _ _ (fails_here c.in_err-next.field-0.0 _ _ (rw (c.len-in-Some.ensures ∙ c.loop-head.nets.ok.0) at c.in_err-next.ensures)))

pub returns-clause-ok : goal.returns-clause-ok
returns-clause-ok c = rw (c.in_ok-from_slice.ensures.items, c.in_default.ensures) c.loop-head.invariant.whole
