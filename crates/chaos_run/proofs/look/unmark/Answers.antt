use Rattle.std.proofs.Common.{suc, ◌<◌, ◌∙◌, length, length-set, false, arith}
use Rattle.chaos_core.proofs.LookLaws.{marks_all, marks_set}
use Rattle.chaos_core.proofs.Places.{no_lie}
use Rattle.chaos_run.proofs.look.unmark.Goals as goal

pub loop-net-preserved : goal.loop-net-preserved
loop-net-preserved c =
    let inv = c.loop-net.invariant in
    let net = c.loop-net.net in
    let inside : net < length c.loop-net.marks = let k = c.loop-net-test.true in let m = inv.count in omega (arith, k, m) in
    record {
      count = length-set c.loop-net.marks net false ∙ inv.count;
      none = λ n below. let under : n < suc net = omega (arith, below) in λ t. marks_set (λ i. ⊥) c.loop-net.marks net false inside inv.none no_lie n under t;
    }

pub returns-clause-none : goal.returns-clause-none
returns-clause-none c = λ n t.
    let inv = c.loop-net.invariant in
    marks_all (λ i. ⊥) c.loop-net.marks c.loop-net.net (let k = c.loop-net-test.false in let m = inv.count in omega (arith, k, m)) inv.none n t
