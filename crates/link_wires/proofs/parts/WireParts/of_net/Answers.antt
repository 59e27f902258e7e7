use Rattle.std.proofs.Common.{◌≡◌, ◌<◌, ◌+◌, ◌++◌, ◌∷◌, [], ℕ, List, None, pos, length, map, take, get_or, refl, sym, ap, subst, ◌∙◌, arith, rules, w64}
use Rattle.std.proofs.lemmas.Int.{to_z-of_z}
use Rattle.std.proofs.lemmas.List.{map-append, take_all}
use mir.Val.{SFits}
use Rattle.spef_read.specs.declared.parasitics.CapText.{CapText}
use Rattle.link_rules.specs.Wires.{capacitor_of}
use Rattle.link_wires.specs.Seen.{cap_by}
use Rattle.link_wires.proofs.ListLaws.{take_push}
use Rattle.link_wires.proofs.parts.WireParts.of_net.Goals as goal

-- one item more, which both lists see as the same
mapped_push : {A B X : Type 0} (g : A → X) (f : B → X) (xs : List A) (x : A) (ys : List B) (i : ℕ) (d : B) → i < length ys → map g xs ≡ map f (take i ys)
    → g x ≡ f (get_or ys i d) → map g (xs ++ x ∷ []) ≡ map f (take (i + 1) ys)
mapped_push g f xs x ys i d lt all one =
    map-append g xs (x ∷ []) ∙ (ap (λ l. l ++ g x ∷ []) all ∙ (ap (λ y. map f (take i ys) ++ y ∷ []) one
    ∙ (sym (map-append f (take i ys) (get_or ys i d ∷ [])) ∙ ap (map f) (sym (take_push ys i d lt)))))

pub loop-cap-preserved : goal.loop-cap-preserved
loop-cap-preserved c =
    let n = c.args.nets.now.netlist in
    let p = c.args.nets.now.parasitics in
    let i = c.loop-cap.cap-index in
    let caps = c.in-Some.text.now.caps in
    let len = ap length c.as_slice-cap-items.ensures in
    let lt : i < length caps = omega (arith, c.loop-cap-test.true, len) in
    let none : CapText = record { a = record { number = 0 }; b = None; value = pos 0 } in
    let made : cap_by p c.in_ok-capacitor_of.field-0 ≡ capacitor_of n p c.args.net (get_or c.as_slice-cap-items.result.now i none) =
    rw c.loop-cap.invariant.same at c.in_ok-capacitor_of.ensures.value in
    let one = subst (λ cs. cap_by p c.in_ok-capacitor_of.field-0 ≡ capacitor_of n p c.args.net (get_or cs i none)) c.as_slice-cap-items.ensures made in
    record {
      same = c.in_ok-capacitor_of.ensures.same ∙ c.loop-cap.invariant.same;
      value = ap (map (cap_by p)) c.in_ok-push.ensures.items
          ∙ mapped_push (cap_by p) (capacitor_of n p c.args.net) c.loop-cap.caps.items c.in_ok-capacitor_of.field-0 caps i none lt c.loop-cap.invariant.value one;
    }

pub returns-clause-value : goal.returns-clause-value
returns-clause-value c =
    let f = capacitor_of c.args.nets.now.netlist c.args.nets.now.parasitics c.args.net in
    let text = c.in-Some.text.now in
    let i = c.loop-cap.cap-index in
    let fits : SFits w64 text.total = search rules in
    let len = ap length c.as_slice-cap-items.ensures in
    let whole : take i text.caps ≡ text.caps = take_all i text.caps (omega (arith, c.loop-cap-test.false, len)) in
    let all : map (cap_by c.args.nets.now.parasitics) c.loop-cap.caps.items ≡ map f text.caps = c.loop-cap.invariant.value ∙ ap (map f) whole in
    rw (c.in-Some.is, to_z-of_z w64 text.total fits, all, c.as_slice-2.ensures) refl
