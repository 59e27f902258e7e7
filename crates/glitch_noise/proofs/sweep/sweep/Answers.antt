use Rattle.std.proofs.Common.{◌≡◌, refl, sym, ◌∙◌, inl, inr, get_or, w64, pos, SFits, to_z-of_z, rules, arith}
use Rattle.std.specs.Int.{w128}
use Rattle.std.proofs.lemmas.Int.{ints}
use Rattle.glitch_noise.specs.declared.change.Change.{Change}
use Rattle.glitch_noise.proofs.Sweeping.{swept_none, swept_all, turn_took, turn_kept}
use Rattle.glitch_noise.proofs.sweep.sweep.Goals as goal
use Rattle.glitch_noise.proofs.sweep.sweep.Goals.{then-sum-best+then-is_later, else-sum-best, else-sum-best-via-then-sum-best+else-is_later, else-sum-best-via-else-sum-best}

abbrev none : Change
none = record { at = pos 0; by = pos 0 }

pub loop-number-init : goal.loop-number-init
loop-number-init c = record { swept = swept_none c.args.changes.now c.requires; low = omega (arith, ints); high = omega (arith, ints) }

pub loop-number-preserved : goal.loop-number-preserved
loop-number-preserved c =
    let cs = c.args.changes.now in
    let i = c.loop-number.number in
    let by_fits : SFits w64 (get_or cs i none).by = search rules in
    let by_is : c.from-sum.result ≡ (get_or cs i none).by = c.from-sum.ensures ∙ to_z-of_z by_fits in
    let best_fits : SFits w128 c.loop-number.best.sum = search rules in
    record {
      swept = elim c.if-sum-best.branch [
        | then-sum-best+then-is_later w ↦ let at_fits : SFits w64 (get_or cs i none).at = search rules in
            turn_took cs i none _ c.from-sum.result _ _ c.loop-number.best c.if-sum-best.best c.loop-number-test.true c.requires c.loop-number.invariant.swept
            by_is (to_z-of_z at_fits) (omega (arith, ints)) (sym w.is_later.ensures ∙ w.if-is_later.true) (grind (arith, ints)) w.best-is
        | else-sum-best w ↦ elim w.else-sum-best.branch [
          | else-sum-best-via-then-sum-best+else-is_later v ↦ let at_fits : SFits w64 (get_or cs i none).at = search rules in
              turn_kept cs i none _ c.from-sum.result _ _ c.loop-number.best c.if-sum-best.best c.loop-number-test.true c.requires c.loop-number.invariant.swept
              by_is (to_z-of_z at_fits) (omega (arith, ints)) (inl (sym v.is_later.ensures ∙ v.if-is_later.false)) w.best-is
          | else-sum-best-via-else-sum-best v ↦ turn_kept cs i none _ c.from-sum.result (get_or cs i none).at _ c.loop-number.best c.if-sum-best.best c.loop-number-test.true c.requires c.loop-number.invariant.swept
              by_is refl (omega (arith, ints)) (inr (grind (arith, ints))) w.best-is
        ]
      ];
      low = omega (arith, ints);
      high = omega (arith, ints);
    }

pub returns : goal.returns
returns c = swept_all c.args.changes.now c.loop-number.number _ _ _ c.loop-number-test.false c.loop-number.invariant.swept
