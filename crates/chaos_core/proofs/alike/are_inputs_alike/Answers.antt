use Rattle.std.proofs.Common.{◌<◌, ap, sym, subst, List, length, get_or, arith}
use Rattle.xt_model.specs.declared.net.TimingArc.{TimingArc}
use Rattle.chaos_core.specs.Spared.{AreRead, IsInputAlike}
use Rattle.chaos_core.proofs.Sparing.{all_turn, input_read, inputs_all, no_arc}
use Rattle.chaos_core.proofs.alike.are_inputs_alike.Goals as goal

pub is_input_alike-requires-clause-read : goal.is_input_alike-requires-clause-read
is_input_alike-requires-clause-read g c =
    let d = c.args.design.now in
    let R = g.T.TwoTimes.has c.args.two.now in
    let own = c.net-own.result.now in
    let i = c.loop-arc.arc-index in
    let more : i < length own.arcs = let n = ap length c.as_slice-arc-items.ensures in let h = c.loop-arc-test.true in omega (arith, n, h) in
    subst (λ (xs : List TimingArc). AreRead d R (get_or xs i no_arc).from.0) (sym c.as_slice-arc-items.ensures) (input_read R d c.args.net.0 own i no_arc c.requires.read c.net-own.ensures.there more)

pub loop-arc-preserved : goal.loop-arc-preserved
loop-arc-preserved g c =
    let W = g.T.TwoTimes.earlier c.args.two.now in
    let V = g.T.TwoTimes.later c.args.two.now in
    let here = c.is_input_alike.ensures c.if-not-is_input_alike.false in
    record {
      known = here;
      all = all_turn (λ (a : TimingArc). IsInputAlike c.args.design.now W V a.from.0) c.as_slice-arc-items.result.now c.loop-arc.arc-index no_arc c.loop-arc-test.true c.loop-arc.invariant.all here;
    }

pub returns : goal.returns
returns g c = λ t.
    let past = c.loop-arc-test.false in
    inputs_all c.args.design.now (g.T.TwoTimes.earlier c.args.two.now) (g.T.TwoTimes.later c.args.two.now) c.args.net.0 c.net-own.result.now c.as_slice-arc-items.result.now
    c.net-own.ensures.there c.as_slice-arc-items.ensures (λ i a lt. c.loop-arc.invariant.all i a (omega (arith, lt, past)))
