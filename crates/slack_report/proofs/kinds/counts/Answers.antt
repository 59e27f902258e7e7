use Rattle.std.proofs.Common.{◌≡◌, refl, sym, ap, subst, ◌∙◌, true, false, List, length}
use Rattle.std.specs.Prelude.{Bool, IsTrue, Option, Some, unwrap_or}
use Rattle.std.specs.List.{slice_get}
use Rattle.std.proofs.lemmas.Bool.{both_ways}
use mathlib.Core.Bool.{beq, not}
use Rattle.slack_report.specs.Points.{is_hold}
use Rattle.xt_model.specs.declared.check.CheckPoint.{CheckPoint}
use Rattle.std.proofs.lemmas.Option.{slice_get_read}
use Rattle.slack_report.proofs.kinds.counts.Goals as goal

not_so : (b : Bool) → IsTrue (not b) → b ≡ false
not_so true t = absurd (both_ways false refl t)
not_so false t = refl

same_kind : (a b : Bool) → beq a b ≡ true → a ≡ b
same_kind true true e = refl
same_kind true false e = sym e
same_kind false true e = e
same_kind false false e = refl

same_itself : (b : Bool) → IsTrue (beq b b)
same_itself true = refl
same_itself false = refl

other_kind : (a b : Bool) → a ≡ b → beq a b ≡ false → ⊥
other_kind a b is differ = both_ways (beq a b) differ (subst (λ (x : Bool). IsTrue (beq x b)) (sym is) (same_itself b))

pub returns-then-is_hold-hold : goal.returns-then-is_hold-hold
returns-then-is_hold-hold c =
    let d = c.args.design.now in
    let s = c.args.slack.now in
    let point = c.in-Some.point.now in
    let found = c.in-Some.ensures.lookup in
    let there : slice_get d.checks s.point ≡ Some point =
    ap (λ (points : List CheckPoint). slice_get points s.point) (sym c.checks.ensures.value) ∙ slice_get_read c.checks.result.now (length c.checks.result.now) s.point point refl found.3.0 found.1 in (
      λ t. record { point = point; there = there; kind = sym c.is_hold.ensures ∙ same_kind c.is_hold.result c.args.hold c.if-is_hold-hold.true; active = not_so s.idle t },
      λ k. subst (λ (b : Bool). IsTrue (not b)) (sym k.active) refl,
    )

pub returns-else-is_hold-hold : goal.returns-else-is_hold-hold
returns-else-is_hold-hold c =
    let d = c.args.design.now in
    let s = c.args.slack.now in
    let point = c.in-Some.point.now in
    let found = c.in-Some.ensures.lookup in
    let there : slice_get d.checks s.point ≡ Some point =
    ap (λ (points : List CheckPoint). slice_get points s.point) (sym c.checks.ensures.value) ∙ slice_get_read c.checks.result.now (length c.checks.result.now) s.point point refl found.3.0 found.1 in (
      λ t. absurd (both_ways (beq c.is_hold.result c.args.hold) c.if-is_hold-hold.false t),
      λ k. absurd (other_kind c.is_hold.result c.args.hold (c.is_hold.ensures ∙ (ap is_hold (ap (λ (o : Option CheckPoint). unwrap_or o point) (sym there ∙ k.there)) ∙ k.kind)) c.if-is_hold-hold.false),
    )
