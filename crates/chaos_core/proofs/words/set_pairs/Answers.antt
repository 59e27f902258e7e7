use Rattle.std.proofs.Common.{◌<◌, sym, ap, subst, ◌∙◌, length, length-set, arith}
use Rattle.std.specs.List.{All}
use Rattle.std.proofs.lemmas.List.Elements.{All-set}
use Rattle.xt_model.specs.declared.quad.Pair.{Pair}
use Rattle.xt_model.specs.Quads.{IsPairInRange}
use Rattle.chaos_core.proofs.Numbered.{pairs_set, all_pairs}
use Rattle.chaos_core.proofs.words.set_pairs.Goals as goal

pub loop-net-preserved : goal.loop-net-preserved
loop-net-preserved c =
    let inv = c.loop-net.invariant in
    let net = c.loop-net.net in
    let v = c.loop-net.windows in
    let p : Pair = record { rise = c.quad_at-rise.result; fall = c.quad_at-fall.result } in
    let inside : net < length v = let k = c.loop-net-test.true in let e = ap length c.pairs-net-end.ensures.value in let m = inv.count in omega (arith, k, e, m) in
    record {
      count = ap length c.set.ensures ∙ (length-set v net p ∙ inv.count);
      numbers = pairs_set c.args.words.now net v p c.set.new.self inside (let m = inv.count in let n = c.requires.count in omega (arith, m, n, inside)) inv.numbers c.quad_at-rise.ensures.numbers c.quad_at-fall.ensures.numbers c.set.ensures;
      range = subst (All IsPairInRange) (sym c.set.ensures) (All-set IsPairInRange v net p (record { rise = c.quad_at-rise.ensures.range; fall = c.quad_at-fall.ensures.range }) inv.range);
    }

pub returns-clause-numbers : goal.returns-clause-numbers
returns-clause-numbers c =
    let inv = c.loop-net.invariant in
    let end = c.loop-net-test.false in
    let e = ap length c.pairs-net-end.ensures.value in
    let m = inv.count in
    let n = c.requires.count in
    all_pairs c.args.words.now c.loop-net.net c.loop-net.windows (omega (arith, end, e, m)) (omega (arith, end, e, m, n)) inv.numbers
