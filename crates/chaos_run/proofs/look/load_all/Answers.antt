use Rattle.std.proofs.Common.{◌≡◌, ℕ, suc, ◌<◌, refl, sym, ap, subst, ◌∙◌, List, length, length-set, set, get_or, false, arith}
use Rattle.std.specs.Prelude.{IsTrue, Option, Some}
use Rattle.std.specs.List.{All}
use Rattle.std.proofs.lemmas.List.Elements.{All-set}
use Rattle.xt_model.specs.declared.edge.Edge.{Edge}
use Rattle.xt_model.specs.declared.quad.Pair.{Pair}
use Rattle.xt_model.specs.Quads.{IsPairInRange, quad_at}
use Rattle.xt_model.specs.Assign.{assigned, quad_of_pair, quads_of}
use Rattle.xt_meaning.specs.Words.{bounds_in}
use Rattle.xt_meaning.proofs.Rounds.{assigned-set_same, assigned-set_other}
use Rattle.chaos_core.proofs.LookLaws.{marks_all, marks_set}
use Rattle.window_words.specs.declared.view.View.{View}
use Rattle.chaos_run.specs.Rounds.{IsRested}
use Rattle.window_words.proofs.Holding.{kept_found}
use Rattle.chaos_run.proofs.Looked.{windows_more, numbers_found}
use Rattle.chaos_run.proofs.look.load_all.Goals as goal

pub loop-net-preserved : goal.loop-net-preserved
loop-net-preserved c =
    let inv = c.loop-net.invariant in
    let net = c.loop-net.net in
    let v = c.loop-net.windows in
    let p = c.load_pair-pair.result in
    let first : View = c.args.first.now.view in
    let inside : net < length v = let k = c.loop-net-test.true in let e = ap length c.pairs-net-end.ensures.value in let m = inv.count in omega (arith, k, e, m) in
    let here : (e : Edge) → quad_at p e ≡ quads_of (bounds_in first.seen) net e =
    λ e. subst (λ (x : View). quad_at p e ≡ quads_of (bounds_in x.seen) net e) inv.view (c.load_pair-pair.ensures.pair e) in
    let before = c.args.before.now in
    let after = set v net p in
    let inside_unmoved : net < length c.loop-net.unmoved = let m = inv.unmoved in let n = inv.count in omega (arith, inside, m, n) in
    let P : ℕ → Type 0 = λ n. (e : Edge) → assigned before n e ≡ assigned after n e in
    let kept : (n : ℕ) → n < net → IsTrue (get_or c.loop-net.unmoved n false) → P n =
    λ n h t e. inv.same n h t e ∙ sym (assigned-set_other v net n p e (λ is. absurd (omega (arith, h, is)))) in
    let marked : IsTrue c.same.result → P net = λ t e.
    ap (λ (o : Option Pair). quad_of_pair o e) (c.pair.ensures.value ∙ ap Some (c.same.ensures.0 t)) ∙ sym (assigned-set_same v net p e inside) in
    record {
      own = c.load_pair-pair.ensures.own;
      view = c.load_pair-pair.ensures.view ∙ inv.view;
      count = ap length c.set.ensures ∙ (length-set v net p ∙ inv.count);
      unmoved = length-set c.loop-net.unmoved net c.same.result ∙ inv.unmoved;
      same = λ n h t e.
          let under : n < suc net = omega (arith, h) in
          marks_set P c.loop-net.unmoved net c.same.result inside_unmoved kept marked n under t e ∙ sym (ap (λ (w : List Pair). assigned w n e) c.set.ensures);
      range = subst (All IsPairInRange) (sym c.set.ensures) (All-set IsPairInRange v net p c.load_pair-pair.ensures.range inv.range);
      there = λ n e h. subst (λ w. assigned w n e ≡ quads_of (bounds_in first.seen) n e) (sym c.set.ensures) (windows_more (bounds_in first.seen) v net p inside inv.there here n e h);
      rested = λ some. subst IsRested inv.view c.load_pair-pair.ensures.rested;
    }

pub returns-clause-numbers : goal.returns-clause-numbers
returns-clause-numbers c =
    let inv = c.loop-net.invariant in
    let first : View = c.args.first.now.view in
    let end = c.loop-net-test.false in
    let e = ap length c.pairs-net-end.ensures.value in
    let m = inv.count in
    let many = c.respects.ensures.count in
    let nets = c.requires.count in
    numbers_found c.loop-net.windows first.seen (omega (arith, many, m, nets)) inv.range (λ n f h. inv.there n f (omega (arith, end, e, m, h)))

pub returns-clause-unmoved : goal.returns-clause-unmoved
returns-clause-unmoved c =
    let inv = c.loop-net.invariant in
    let P : ℕ → Type 0 = λ n. (e : Edge) → assigned c.args.before.now n e ≡ assigned c.loop-net.windows n e in
    let end = c.loop-net-test.false in
    let k = ap length c.pairs-net-end.ensures.value in
    let m = inv.unmoved in
    record { count = let b = c.requires.before in let u = inv.unmoved in omega (arith, b, u); same = λ n e t. marks_all P c.loop-net.unmoved c.loop-net.net (omega (arith, end, k, m)) inv.same n t e }

pub loop-net-init : goal.loop-net-init
loop-net-init c = record {
  own = c.requires.own;
  view = refl;
  count = refl;
  unmoved = c.requires.unmoved;
  range = c.pairs-net-end.ensures.in_range;
  there = λ n e h. absurd (omega (arith, h));
  same = λ n h t e. absurd (omega (arith, h));
  rested = λ h. absurd (omega (arith, h));
}

pub returns-clause-kept : goal.returns-clause-kept
returns-clause-kept c =
    let end = c.loop-net-test.false in
    let e = ap length c.pairs-net-end.ensures.value in
    let nets = c.requires.count in
    kept_found c.args.first.now.view c.respects.ensures (λ some. c.loop-net.invariant.rested (omega (arith, end, e, nets, some)))
