use Rattle.std.proofs.Common.{◌∙◌, ap, length, arith}
use Rattle.std.specs.Prelude.{slice_index}
use Rattle.std.proofs.lemmas.Result.{err_from_is_err_and}
use Rattle.net_eval.proofs.Steady.{windows_read}
use Rattle.envelope.proofs.Turns.{IsNext, net_there, pass_stopped, ended_envelope, ended_accepted, ended_contains}
use Rattle.envelope.proofs.Anew.{made_again, made_next, made_other, own_flagged, own_within, passed_over, renewal_ends, renewal_starts, renewed_fits}
use Rattle.envelope.proofs.renewal.renewed.Goals.{then-not-same, else-not-same}
use Rattle.envelope.proofs.renewal.renewed.Goals as goal

pub loop-net-init : goal.loop-net-init
loop-net-init c =
    renewal_starts _ _ _ _ _ _ c.order-net-items.ensures.sound c.order-net-items.ensures.value c.requires.old (c.in_ok-kept.ensures.count ∙ ap length c.nets.ensures.value)
    c.in_ok-kept.ensures.first c.in_ok-kept.ensures.second

pub net-requires : goal.net-requires
net-requires c = net_there _ _ c.loop-net.net-index c.order-net-items.ensures.sound c.order-net-items.ensures.value c.loop-net-test.true

pub loop-net-preserved-then-is_steady : goal.loop-net-preserved-then-is_steady
loop-net-preserved-then-is_steady c =
    passed_over _ _ _ _ _ c.loop-net.windows _ c.loop-net.net-index c.order-net-items.ensures.sound c.order-net-items.ensures.value c.loop-net-test.true c.loop-net.invariant
    c.requires.old c.net.result.now c.net.ensures.there c.deref.result.now c.deref.ensures.value c.as_slice-arcs.result.now c.as_slice-arcs.ensures c.if-is_steady.ensures

pub eval_widest-pair-requires-clause-net : goal.eval_widest-pair-requires-clause-net
eval_widest-pair-requires-clause-net c = net_there _ _ c.loop-net.net-index c.order-net-items.ensures.sound c.order-net-items.ensures.value c.loop-net-test.true

pub eval_widest-pair-requires-clause-words : goal.eval_widest-pair-requires-clause-words
eval_widest-pair-requires-clause-words c = windows_read _ c.loop-net.windows _ c.loop-net.invariant.count c.order-net-items.ensures.sound (net_there _ _ c.loop-net.net-index c.order-net-items.ensures.sound c.order-net-items.ensures.value c.loop-net-test.true)

pub eval_widest-pair-requires-clause-room : goal.eval_widest-pair-requires-clause-room
eval_widest-pair-requires-clause-room c =
    renewed_fits _ _ _ _ _ c.loop-net.windows _ c.loop-net.net-index c.order-net-items.ensures.sound c.order-net-items.ensures.value c.loop-net-test.true c.loop-net.invariant

pub test_pair-requires-clause-count : goal.test_pair-requires-clause-count
test_pair-requires-clause-count c = c.loop-net.invariant.count

pub test_pair-requires-clause-net : goal.test_pair-requires-clause-net
test_pair-requires-clause-net c = net_there _ _ c.loop-net.net-index c.order-net-items.ensures.sound c.order-net-items.ensures.value c.loop-net-test.true

pub returns-in_err-test_pair-clause-limit : goal.returns-in_err-test_pair-clause-limit
returns-in_err-test_pair-clause-limit c =
    let p = err_from_is_err_and c.from_residual-in_err-test_pair.result c.from_residual-in_err-test_pair.ensures.1 in
    let x = c.in_err-test_pair.field-0.0 in
    let r = c.loop-net.invariant in
    rw (p.1, p.2) (pass_stopped c.args.design.now _ r.fresh c.loop-net.net-index c.eval_widest-pair.result x.net.0 x.what x.value c.order-net-items.ensures.sound c.order-net-items.ensures.value c.loop-net-test.true r.tested
    (made_next _ _ _ _ _ c.loop-net.windows _ c.loop-net.net-index c.order-net-items.ensures.sound c.order-net-items.ensures.value c.loop-net-test.true r c.eval_widest-pair.result
    (record { rise = c.eval_widest-pair.ensures.rise; fall = c.eval_widest-pair.ensures.fall; range = c.eval_widest-pair.ensures.range })) c.in_err-test_pair.ensures)

pub pair-requires : goal.pair-requires
pair-requires c = own_within _ _ _ _ _ c.loop-net.windows _ c.loop-net.net-index c.order-net-items.ensures.sound c.order-net-items.ensures.value c.loop-net-test.true c.loop-net.invariant

pub index_mut-requires : goal.index_mut-requires
index_mut-requires c =
    let h = own_flagged _ _ _ _ _ c.loop-net.windows c.loop-net.kept.items c.loop-net.net-index c.order-net-items.ensures.sound c.order-net-items.ensures.value c.loop-net-test.true c.loop-net.invariant in
    let e = ap length c.deref.ensures.value in
    omega (arith, h, e, c.deref.ensures.len)

pub set-requires-clause-net : goal.set-requires-clause-net
set-requires-clause-net c = own_within _ _ _ _ _ c.loop-net.windows _ c.loop-net.net-index c.order-net-items.ensures.sound c.order-net-items.ensures.value c.loop-net-test.true c.loop-net.invariant

pub loop-net-preserved : goal.loop-net-preserved
loop-net-preserved c =
    let own = slice_index c.order-net-items.result.now c.loop-net.net-index in
    let next : IsNext c.args.design.now c.loop-net.windows own c.eval_widest-pair.result =
    record { rise = c.eval_widest-pair.ensures.rise; fall = c.eval_widest-pair.ensures.fall; range = c.eval_widest-pair.ensures.range } in
    elim c.if-not-same.branch [
      | then-not-same w ↦
          made_other _ _ _ _ _ c.loop-net.windows c.loop-net.kept.items c.loop-net.net-index c.order-net-items.ensures.sound c.order-net-items.ensures.value c.loop-net-test.true c.loop-net.invariant
          c.eval_widest-pair.result next c.in_ok-test_pair.ensures c.if-not-same.windows c.if-not-same.kept.items (w.windows-is ∙ w.set.ensures) (ap (λ v. v.items) w.kept-is)
      | else-not-same w ↦
          rw (w.windows-is, w.kept-is) (made_again _ _ _ _ _ c.loop-net.windows c.loop-net.kept.items c.loop-net.net-index c.order-net-items.ensures.sound c.order-net-items.ensures.value
          c.loop-net-test.true c.loop-net.invariant c.eval_widest-pair.result next c.in_ok-test_pair.ensures c.pair.result c.pair.ensures.value (c.same.ensures.0 w.if-not-same.false))
    ]

pub returns-clause-envelope : goal.returns-clause-envelope
returns-clause-envelope c =
    ended_envelope _ _ c.loop-net.windows c.loop-net.net-index c.order-net-items.ensures.sound c.order-net-items.ensures.value c.loop-net-test.false c.loop-net.auto.net-index-end
    (renewal_ends _ _ _ _ _ c.loop-net.windows _ c.loop-net.net-index c.order-net-items.ensures.value c.loop-net-test.false c.loop-net.auto.net-index-end c.loop-net.invariant)

pub returns-clause-accepted : goal.returns-clause-accepted
returns-clause-accepted c =
    ended_accepted _ _ c.loop-net.windows c.loop-net.net-index c.order-net-items.ensures.sound c.order-net-items.ensures.value c.loop-net-test.false c.loop-net.auto.net-index-end
    (renewal_ends _ _ _ _ _ c.loop-net.windows _ c.loop-net.net-index c.order-net-items.ensures.value c.loop-net-test.false c.loop-net.auto.net-index-end c.loop-net.invariant)

pub returns-clause-contains : goal.returns-clause-contains
returns-clause-contains c =
    ended_contains _ _ c.loop-net.windows c.loop-net.net-index c.order-net-items.ensures.sound c.order-net-items.ensures.value c.loop-net-test.false c.loop-net.auto.net-index-end
    (renewal_ends _ _ _ _ _ c.loop-net.windows _ c.loop-net.net-index c.order-net-items.ensures.value c.loop-net-test.false c.loop-net.auto.net-index-end c.loop-net.invariant)
