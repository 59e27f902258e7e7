use Rattle.std.proofs.Common.{sym, subst, List, pos, arith}
use Rattle.std.specs.List.{slice_get}
use Rattle.xt_model.specs.declared.net.Coupling.{Coupling}
use Rattle.xt_model.specs.declared.net.Net.{Net}
use Rattle.xt_meaning.specs.Reads.{HoldsOfEnds}
use Rattle.miller_bits.proofs.Sums.{found}
use Rattle.chaos_core.specs.Alike.{HasSameAnswers}
use Rattle.chaos_core.proofs.Sparing.{all_turn, answers_all}
use Rattle.chaos_core.proofs.alike.has_answers_alike.Goals as goal

abbrev none : Coupling
none = record { to = record { 0 = 0 }; cap = pos 0 }

pub answers_alike-requires-clause-other : goal.answers_alike-requires-clause-other
answers_alike-requires-clause-other g c =
    let R = g.T.TwoTimes.has c.args.two.now in
    let ends = found (λ (x : Net). HoldsOfEnds R x.couplings) (slice_get c.args.design.now.nets c.args.net.0) c.net-own.result.now c.net-own.ensures.there c.requires.read.ends in
    subst (λ (ks : List Coupling). HoldsOfEnds R ks) (sym c.as_slice-coupling-items.ensures) ends c.loop-coupling.coupling-index none c.loop-coupling-test.true

pub loop-coupling-preserved : goal.loop-coupling-preserved
loop-coupling-preserved g c =
    let W = g.T.TwoTimes.earlier c.args.two.now in
    let V = g.T.TwoTimes.later c.args.two.now in
    all_turn (λ (k : Coupling). HasSameAnswers c.period-period.result W V c.args.net.0 k.to.0) c.as_slice-coupling-items.result.now c.loop-coupling.coupling-index none c.loop-coupling-test.true c.loop-coupling.invariant
    (c.answers_alike.ensures c.if-not-answers_alike.false)

pub returns : goal.returns
returns g c = λ t.
    let past = c.loop-coupling-test.false in
    answers_all c.args.design.now (g.T.TwoTimes.earlier c.args.two.now) (g.T.TwoTimes.later c.args.two.now) c.args.net.0 c.net-own.result.now c.as_slice-coupling-items.result.now c.period-period.result
    c.net-own.ensures.there c.as_slice-coupling-items.ensures c.period-period.ensures.value (λ i k lt. c.loop-coupling.invariant i k (omega (arith, lt, past)))
