use Rattle.std.proofs.Common.{◌≡◌, ◌⊎◌, ℕ, ◌∙◌, inl, inr, ap, subst, sym, get_or, arith}
use Rattle.std.specs.Prelude.{slice_index}
use Rattle.std.proofs.lemmas.Bool.{cases_lt}
use Rattle.std.proofs.lemmas.List.{get_or_default}
use Rattle.xt_model.specs.declared.net.NetId.{NetId}
use Rattle.xt_model.specs.Assign.{assigned}
use Rattle.net_eval.specs.ReadLists.{ids}
use Rattle.chaos_core.specs.TurnMarks.{AreTold, Marks, MeetAlike}
use Rattle.chaos_core.proofs.Places.{id_at, ids_count}
use Rattle.chaos_core.proofs.Telling.{told_still, told_twice}
use Rattle.chaos_core.proofs.answers.tell_others.Goals as goal

pub loop-other-preserved : goal.loop-other-preserved
loop-other-preserved c =
    let inv = c.loop-other.invariant in
    let one = c.tell_one.ensures in
    let moved = c.args.moved.now in
    let others = c.args.others.now in
    let j = c.loop-other.other-index in
    let before = c.loop-other.marks.answers in
    let later = c.tell_one.new.marks.answers in
    let turn = c.args.marks.now.turn in
    let none : NetId = record { 0 = 0 } in
    let Alike : ℕ → Type 0 = λ m. MeetAlike moved.period moved.inner.now moved.outer.now (assigned c.args.windows.now) m in
    let same : c.loop-other.marks.turn ≡ turn = ap (λ (m : Marks). m.turn) inv.rest in
    let each : AreTold turn before later = subst (λ t. AreTold t before later) same one.each in
    record {
      told = told_twice turn c.args.marks.now.answers before later inv.told each;
      rest = one.rest ∙ ap (λ (m : Marks). record m { answers = later }) inv.rest;
      others = λ i lt. elim (cases_lt i j) [
        | inl p ↦ told_still (Alike (slice_index (ids others) i)) turn before later (slice_index (ids others) i) each (inv.others i p)
        | inr p ↦
            let e : j ≡ i = omega (arith, p, lt) in
            let x = (get_or others j none).0 in
            let told = subst (λ (t : ℕ). Alike x ⊎ (slice_index later x ≡ t)) same one.told in
            subst (λ (y : ℕ). Alike (slice_index (ids others) y) ⊎ (slice_index later (slice_index (ids others) y) ≡ turn)) e
            (subst (λ (y : ℕ). Alike y ⊎ (slice_index later y ≡ turn)) (sym (id_at others j none c.loop-other-test.true)) told)
      ];
    }

pub returns-clause-others : goal.returns-clause-others
returns-clause-others c = λ m has.
    let moved = c.args.moved.now in
    let reads = ids c.args.others.now in
    let n = ids_count c.args.others.now in
    let inside = has.1 in
    let past = c.loop-other-test.false in
    let at : slice_index reads has.0 ≡ m = get_or_default reads has.0 0 m has.1 ∙ has.2 in
    subst (λ (y : ℕ). MeetAlike moved.period moved.inner.now moved.outer.now (assigned c.args.windows.now) y ⊎ (slice_index c.loop-other.marks.answers y ≡ c.args.marks.now.turn)) at
    (c.loop-other.invariant.others has.0 (omega (arith, n, inside, past)))
