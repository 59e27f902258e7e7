use Rattle.std.proofs.Common.{arith}
use Rattle.std.proofs.lemmas.Result.{err_from_is_err_and}
use Rattle.net_eval.proofs.Steady.{windows_read}
use Rattle.envelope.proofs.Turns.{net_there, tested_fits, pass_started, pass_turned, pass_stopped, none_stopped, ended_envelope, ended_accepted, ended_contains, ended_itself, ended_starts}
use Rattle.envelope.proofs.pass.one_pass.Goals as goal

pub loop-net-init : goal.loop-net-init
loop-net-init c = pass_started _ _ _ c.order-net-items.ensures.sound c.order-net-items.ensures.value c.requires.start

pub eval_widest_grouped-pair-requires-clause-net : goal.eval_widest_grouped-pair-requires-clause-net
eval_widest_grouped-pair-requires-clause-net c = net_there _ _ c.loop-net.net-index c.order-net-items.ensures.sound c.order-net-items.ensures.value c.loop-net-test.true

pub eval_widest_grouped-pair-requires-clause-words : goal.eval_widest_grouped-pair-requires-clause-words
eval_widest_grouped-pair-requires-clause-words c = windows_read _ c.loop-net.windows _ c.loop-net.invariant.pass.windows.count c.order-net-items.ensures.sound (net_there _ _ c.loop-net.net-index c.order-net-items.ensures.sound c.order-net-items.ensures.value c.loop-net-test.true)

pub eval_widest_grouped-pair-requires-clause-room : goal.eval_widest_grouped-pair-requires-clause-room
eval_widest_grouped-pair-requires-clause-room c = tested_fits _ _ c.loop-net.windows _ c.order-net-items.ensures.sound c.loop-net.invariant _

pub test_pair_by-requires-clause-net : goal.test_pair_by-requires-clause-net
test_pair_by-requires-clause-net c = net_there _ _ c.loop-net.net-index c.order-net-items.ensures.sound c.order-net-items.ensures.value c.loop-net-test.true

pub set-requires-clause-net : goal.set-requires-clause-net
set-requires-clause-net c =
    let there = net_there _ _ c.loop-net.net-index c.order-net-items.ensures.sound c.order-net-items.ensures.value c.loop-net-test.true in
    omega (arith, there, c.loop-net.invariant.pass.windows.count)

pub loop-net-preserved : goal.loop-net-preserved
loop-net-preserved c =
    pass_turned _ _ c.loop-net.windows _ c.loop-net.net-index c.eval_widest_grouped-pair.result c.order-net-items.ensures.sound c.order-net-items.ensures.value c.loop-net-test.true c.loop-net.invariant
    (record { rise = c.eval_widest_grouped-pair.ensures.rise; fall = c.eval_widest_grouped-pair.ensures.fall; range = c.eval_widest_grouped-pair.ensures.range }) c.in_ok-test_pair_by.ensures c.set.ensures

pub returns-in_err-test_pair_by-clause-limit : goal.returns-in_err-test_pair_by-clause-limit
returns-in_err-test_pair_by-clause-limit c =
    let p = err_from_is_err_and c.from_residual-in_err-test_pair_by.result c.from_residual-in_err-test_pair_by.ensures.1 in
    let x = c.in_err-test_pair_by.field-0.0 in
    rw (p.1, p.2) (pass_stopped c.args.design.now _ c.loop-net.windows c.loop-net.net-index c.eval_widest_grouped-pair.result x.net.0 x.what x.value c.order-net-items.ensures.sound c.order-net-items.ensures.value c.loop-net-test.true c.loop-net.invariant
    (record { rise = c.eval_widest_grouped-pair.ensures.rise; fall = c.eval_widest_grouped-pair.ensures.fall; range = c.eval_widest_grouped-pair.ensures.range }) c.in_err-test_pair_by.ensures)

pub returns-in_err-test_pair_by-clause-complete : goal.returns-in_err-test_pair_by-clause-complete
returns-in_err-test_pair_by-clause-complete c = λ top widest acc.
    let x = c.in_err-test_pair_by.field-0.0 in
    absurd (none_stopped c.args.design.now x.net.0 x.what x.value top c.order-net-items.ensures.sound
    (pass_stopped c.args.design.now _ c.loop-net.windows c.loop-net.net-index c.eval_widest_grouped-pair.result x.net.0 x.what x.value c.order-net-items.ensures.sound c.order-net-items.ensures.value c.loop-net-test.true c.loop-net.invariant
    (record { rise = c.eval_widest_grouped-pair.ensures.rise; fall = c.eval_widest_grouped-pair.ensures.fall; range = c.eval_widest_grouped-pair.ensures.range }) c.in_err-test_pair_by.ensures)
    widest acc)

pub returns-clause-envelope : goal.returns-clause-envelope
returns-clause-envelope c = ended_envelope _ _ c.loop-net.windows c.loop-net.net-index c.order-net-items.ensures.sound c.order-net-items.ensures.value c.loop-net-test.false c.loop-net.auto.net-index-end c.loop-net.invariant

pub returns-clause-accepted : goal.returns-clause-accepted
returns-clause-accepted c = ended_accepted _ _ c.loop-net.windows c.loop-net.net-index c.order-net-items.ensures.sound c.order-net-items.ensures.value c.loop-net-test.false c.loop-net.auto.net-index-end c.loop-net.invariant

pub returns-clause-contains : goal.returns-clause-contains
returns-clause-contains c = ended_contains _ _ c.loop-net.windows c.loop-net.net-index c.order-net-items.ensures.sound c.order-net-items.ensures.value c.loop-net-test.false c.loop-net.auto.net-index-end c.loop-net.invariant

pub returns-clause-itself : goal.returns-clause-itself
returns-clause-itself c = ended_itself _ _ c.loop-net.windows c.loop-net.net-index c.order-net-items.ensures.sound c.order-net-items.ensures.value c.loop-net-test.false c.loop-net.auto.net-index-end c.loop-net.invariant

pub returns-clause-starts : goal.returns-clause-starts
returns-clause-starts c = ended_starts _ _ c.loop-net.windows c.loop-net.net-index c.order-net-items.ensures.sound c.order-net-items.ensures.value c.loop-net-test.false c.loop-net.auto.net-index-end c.loop-net.invariant
