use Rattle.std.proofs.Common.{◌≡◌, ℕ, ◌∙◌, inl, inr, subst, List, map, get_or, pos, Vec, Global, arith}
use Rattle.std.proofs.lemmas.Bool.{cases_lt}
use Rattle.std.proofs.lemmas.List.{get_or_default}
use Rattle.xt_model.specs.declared.net.Coupling.{Coupling}
use Rattle.xt_model.specs.declared.net.NetId.{NetId}
use Rattle.chaos_core.specs.TurnMarks.{HasListed}
use Rattle.chaos_core.proofs.Listing.{more_twice}
use Rattle.chaos_core.proofs.listed.push_all.Goals as goal

abbrev none : Coupling
none = record { to = record { 0 = 0 }; cap = pos 0 }

abbrev lists_of : List (Vec NetId Global) → List (List NetId)
lists_of rows = map (λ row. row.items) rows

pub loop-coupling-preserved : goal.loop-coupling-preserved
loop-coupling-preserved c =
    let inv = c.loop-coupling.invariant in
    let one = c.in_ok-push_one.ensures in
    let own = c.args.own.0 in
    let ks = c.args.couplings.now in
    let j = c.loop-coupling.coupling-index in
    let later = lists_of c.push_one.new.rows in
    record {
      count = c.push_one.ensures.count ∙ inv.count;
      more = more_twice own (lists_of c.args.rows.now) (lists_of c.loop-coupling.rows) later inv.more one.more;
      there = λ i k lt. elim (cases_lt i j) [
        | inl p ↦ one.more.kept (get_or ks i k).to.0 own (inv.there i k p)
        | inr p ↦
            let e : j ≡ i = omega (arith, p, lt) in
            let same : get_or ks j none ≡ get_or ks j k = get_or_default ks j none k c.loop-coupling-test.true in
            subst (λ (x : ℕ). HasListed later (get_or ks x k).to.0 own) e (subst (λ (x : Coupling). HasListed later x.to.0 own) same one.there)
      ];
    }
