use Rattle.std.proofs.Common.{◌≡◌, ◌-◌, ◌<◌, ◌≤◌, inl, inr, subst, arith}
use Rattle.std.proofs.lemmas.Bool.{cases_lt}
use Rattle.net_eval.specs.Closing.{IsSteadyAt}
use Rattle.chaos_run.proofs.LookParts.{look_put}
use Rattle.chaos_run.proofs.look.closed_down.Goals as goal

pub loop-step-preserved : goal.loop-step-preserved
loop-step-preserved c =
    let d = c.args.design.now in
    let v = c.args.windows.now in
    let from = c.args.from in
    let to = c.args.to in
    let inv = c.loop-step.invariant in
    let step = c.loop-step.step in
    let within = c.loop-step-test.true in
    let begun = c.loop-step.auto.step in
    let net = (to - 1) - (step - from) in
    let low : from ≤ net = omega (arith, within, begun) in
    let high : net < to = omega (arith, within, begun) in
    record {
      look = look_put d v from to net c.loop-step.marks c.is_steady.new.mark inv.look low high c.is_steady.ensures.marked;
      steady = λ n least most. elim (cases_lt n (to - (step - from))) [
        | inl p ↦ let e : net ≡ n = omega (arith, least, p, within, begun) in subst (IsSteadyAt d v) e (c.is_steady.ensures.steady.0 c.if-not-is_steady.false)
        | inr p ↦ inv.steady n p most
      ];
    }
