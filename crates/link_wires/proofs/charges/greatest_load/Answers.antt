use Rattle.std.proofs.Common.{◌∙◌, get_or, pos, ap, rules, arith, w64}
use Rattle.std.specs.Int.RustNames.{unsigned_abs}
use Rattle.std.proofs.lemmas.Int.{to_z-of_z}
use Rattle.std.proofs.lemmas.List.Sums.{sum_by_more}
use Rattle.std.proofs.lemmas.List.{take_all}
use mir.Val.{SFits}
use Rattle.elmore_tree.specs.Trees.{tap_sum}
use Rattle.link_rules.specs.Wires.{Charge}
use Rattle.link_wires.specs.Wires.{charge_sum}
use Rattle.link_wires.proofs.charges.greatest_load.Goals as goal

pub loop-charge-preserved : goal.loop-charge-preserved
loop-charge-preserved c =
    let charges = c.args.charges.now in
    let i = c.loop-charge.charge-index in
    let d : Charge = (0, pos 0) in
    let fits : SFits w64 (get_or charges i d).1 = search rules in
    let one = sum_by_more (λ (x : Charge). unsigned_abs x.1) charges i d c.loop-charge-test.true in
    let value = c.from-load.ensures ∙ (c.unsigned_abs.ensures.value ∙ ap unsigned_abs (to_z-of_z w64 (get_or charges i d).1 fits)) in
    let inv = c.loop-charge.invariant in
    record { value = omega (arith, inv.value, one, value); most = omega (arith, inv.most, c.from-load.ensures, c.unsigned_abs.ensures.bound) }

pub loop-tap-init : goal.loop-tap-init
loop-tap-init c =
    let whole = ap charge_sum (take_all c.loop-charge.charge-index c.args.charges.now (omega (arith, c.loop-charge-test.false))) in
    let inv = c.loop-charge.invariant in
    record { value = omega (arith, inv.value, whole); most = omega (arith, inv.most, c.loop-charge.auto.charge-index-end) }

pub returns : goal.returns
returns c =
    let whole = ap tap_sum (take_all c.loop-tap.tap-index c.args.taps.now (omega (arith, c.loop-tap-test.false))) in
    omega (arith, c.loop-tap.invariant.value, whole)
