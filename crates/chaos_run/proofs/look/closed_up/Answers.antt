use Rattle.std.proofs.Common.{◌≡◌, inl, inr, subst, arith}
use Rattle.std.proofs.lemmas.Bool.{cases_lt}
use Rattle.net_eval.specs.Closing.{IsSteadyAt}
use Rattle.chaos_run.proofs.LookParts.{look_put}
use Rattle.chaos_run.proofs.look.closed_up.Goals as goal

pub loop-net-preserved : goal.loop-net-preserved
loop-net-preserved c =
    let d = c.args.design.now in
    let v = c.args.windows.now in
    let inv = c.loop-net.invariant in
    let net = c.loop-net.net in
    record {
      look = look_put d v c.args.from c.args.to net c.loop-net.marks c.is_steady.new.mark inv.look c.loop-net.auto.net c.loop-net-test.true c.is_steady.ensures.marked;
      steady = λ n low high. elim (cases_lt n net) [
        | inl p ↦ inv.steady n low p
        | inr p ↦ let e : net ≡ n = omega (arith, p, high) in subst (IsSteadyAt d v) e (c.is_steady.ensures.steady.0 c.if-not-is_steady.false)
      ];
    }
