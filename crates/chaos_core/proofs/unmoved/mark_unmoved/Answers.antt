use Rattle.std.proofs.Common.{◌≡◌, ℕ, suc, ◌<◌, ◌∙◌, arith, length, length-set}
use Rattle.std.specs.Prelude.{IsTrue}
use Rattle.xt_model.specs.declared.edge.Edge.{Edge}
use Rattle.xt_model.specs.Assign.{assigned}
use Rattle.chaos_core.proofs.LookLaws.{marks_all, marks_set, same_pairs}
use Rattle.chaos_core.proofs.unmoved.mark_unmoved.Goals as goal

pub loop-net-preserved : goal.loop-net-preserved
loop-net-preserved c =
    let inv = c.loop-net.invariant in
    let v = c.args.before.now in
    let w = c.args.after.now in
    let net = c.loop-net.net in
    let P : ℕ → Type 0 = λ n. (e : Edge) → assigned v n e ≡ assigned w n e in
    let here : IsTrue c.same.result → P net = λ t. same_pairs v w net _ _ c.pair.ensures.value c.pair-in-loop-net.ensures.value (c.same.ensures.0 t) in
    let inside : net < length c.loop-net.marks = let k = c.loop-net-test.true in let m = inv.count in let n = c.requires.marks in omega (arith, k, m, n) in
    record {
      count = length-set c.loop-net.marks net c.same.result ∙ inv.count;
      same = λ n below. let under : n < suc net = omega (arith, below) in λ t. marks_set P c.loop-net.marks net c.same.result inside inv.same here n under t;
    }

pub returns : goal.returns
returns c =
    let inv = c.loop-net.invariant in
    let P : ℕ → Type 0 = λ n. (e : Edge) → assigned c.args.before.now n e ≡ assigned c.args.after.now n e in
    record { count = inv.count; same = λ n e t. marks_all P c.loop-net.marks c.loop-net.net (let k = c.loop-net-test.false in let m = inv.count in let n = c.requires.marks in omega (arith, k, m, n)) inv.same n t e }
