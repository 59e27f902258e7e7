use Rattle.std.proofs.Common.{◌≡◌, ◌∙◌, Some, sym, ap, arith, inl, inr}
use Rattle.std.specs.List.{slice_get}
use Rattle.std.proofs.lemmas.Option.{same_Some, get_or_from_slice_get, slice_get_within}
use Rattle.std.proofs.lemmas.Bool.{cases_eq}
use Rattle.link_pins.specs.declared.pins.PinOn.{PinOn}
use Rattle.link_pins.proofs.PinLaws.{nothing}
use Rattle.link_pins.proofs.timings.same_instance.Goals as goal

pub pins-init : goal.pins-init
pins-init c = record {
  some = omega arith;
  most = omega (arith, c.requires);
  same = λ i p q least lt a b.
      let on : i ≡ c.args.from = omega arith in
      ap (λ (x : PinOn). x.instance) (same_Some q p (sym b ∙ (ap (slice_get c.args.pins.now) on ∙ a)));
}

pub pins-preserved : goal.pins-preserved
pins-preserved c = record {
  some = omega (arith, c.pins.invariant.some);
  most = omega (arith, c.pins-test.true);
  same = λ i p q least lt a b. elim (cases_eq i c.pins.to) [
    | inl on ↦
        let here : slice_get c.args.pins.now c.pins.to ≡ Some q = ap (slice_get c.args.pins.now) (sym on) ∙ b in
        ap (λ (x : PinOn). x.instance) (sym (get_or_from_slice_get c.args.pins.now c.pins.to q nothing here))
        ∙ (c.if-pins-to.false ∙ ap (λ (x : PinOn). x.instance) (get_or_from_slice_get c.args.pins.now c.args.from p nothing a))
    | inr other ↦ c.pins.invariant.same i p q least (omega arith) a b
  ];
}

pub returns-after-pins : goal.returns-after-pins
returns-after-pins c = record {
  some = c.pins.invariant.some;
  most = c.pins.invariant.most;
  same = c.pins.invariant.same;
  next = λ p q a b. absurd (omega (arith, slice_get_within c.args.pins.now c.pins.to q b, c.pins-test.false));
}

pub returns-then-pins-to : goal.returns-then-pins-to
returns-then-pins-to c = record {
  some = c.pins.invariant.some;
  most = c.pins.invariant.most;
  same = c.pins.invariant.same;
  next = λ p q a b e.
      c.if-pins-to.true
      (ap (λ (x : PinOn). x.instance) (get_or_from_slice_get c.args.pins.now c.pins.to q nothing b)
      ∙ (e ∙ sym (ap (λ (x : PinOn). x.instance) (get_or_from_slice_get c.args.pins.now c.args.from p nothing a))));
}
