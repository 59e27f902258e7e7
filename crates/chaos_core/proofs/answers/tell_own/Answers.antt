use Rattle.std.proofs.Common.{◌≡◌, ◌⊎◌, ℕ, ◌∙◌, inl, inr, ap, subst, sym, List, get_or, pos, arith}
use Rattle.std.specs.Prelude.{slice_index, Option, IfSome}
use Rattle.std.specs.List.{All}
use Rattle.std.proofs.lemmas.Bool.{cases_lt}
use Rattle.std.proofs.lemmas.List.{get_or_default}
use Rattle.xt_model.specs.declared.net.Coupling.{Coupling}
use Rattle.xt_model.specs.declared.net.Net.{Net}
use Rattle.xt_model.specs.Assign.{assigned}
use Rattle.chaos_core.specs.TurnMarks.{AreTold, Marks, MeetAlike}
use Rattle.chaos_core.proofs.Telling.{told_still, told_twice}
use Rattle.chaos_core.proofs.answers.tell_own.Goals as goal

abbrev none : Coupling
none = record { to = record { 0 = 0 }; cap = pos 0 }

pub loop-coupling-preserved : goal.loop-coupling-preserved
loop-coupling-preserved c =
    let inv = c.loop-coupling.invariant in
    let one = c.tell_one.ensures in
    let moved = c.args.moved.now in
    let net = c.args.net.0 in
    let ks = c.as_slice-coupling-items.result.now in
    let j = c.loop-coupling.coupling-index in
    let before = c.loop-coupling.marks.answers in
    let later = c.tell_one.new.marks.answers in
    let turn = c.args.marks.now.turn in
    let Alike : Coupling → Type 0 = λ x. MeetAlike moved.period moved.inner.now moved.outer.now (assigned c.args.windows.now) x.to.0 in
    let same : c.loop-coupling.marks.turn ≡ turn = ap (λ (m : Marks). m.turn) inv.rest in
    let each : AreTold turn before later = subst (λ t. AreTold t before later) same one.each in
    record {
      told = told_twice turn c.args.marks.now.answers before later inv.told each;
      rest = one.rest ∙ ap (λ (m : Marks). record m { answers = later }) inv.rest;
      own = λ i k lt. elim (cases_lt i j) [
        | inl p ↦ told_still (Alike (get_or ks i k)) turn before later net each (inv.own i k p)
        | inr p ↦
            let e : j ≡ i = omega (arith, p, lt) in
            let at : get_or ks j none ≡ get_or ks j k = get_or_default ks j none k c.loop-coupling-test.true in
            let told = subst (λ (t : ℕ). Alike (get_or ks j none) ⊎ (slice_index later net ≡ t)) same one.told in
            subst (λ (x : ℕ). Alike (get_or ks x k) ⊎ (slice_index later net ≡ turn)) e (subst (λ (x : Coupling). Alike x ⊎ (slice_index later net ≡ turn)) at told)
      ];
    }

pub returns-clause-own : goal.returns-clause-own
returns-clause-own c =
    let moved = c.args.moved.now in
    let turn = c.args.marks.now.turn in
    let P : Coupling → Type 0 = λ k. MeetAlike moved.period moved.inner.now moved.outer.now (assigned c.args.windows.now) k.to.0 ⊎ (slice_index c.loop-coupling.marks.answers c.args.net.0 ≡ turn) in
    let all : All P c.as_slice-coupling-items.result.now = λ i k lt. let past = c.loop-coupling-test.false in c.loop-coupling.invariant.own i k (omega (arith, lt, past)) in
    subst (λ (o : Option Net). IfSome o (λ n. All P n.couplings)) (sym c.net-own.ensures.there) (subst (λ (ks : List Coupling). All P ks) c.as_slice-coupling-items.ensures all)
