use Rattle.std.proofs.Common.{◌≡◌, sym, ap, refl, subst, ◌∙◌, ◌^◌, ℤ, pos, ◌+ℤ◌, ◌-ℤ◌, ◌≤ℤ◌, true, false, to_z, of_z, arith}
use lib.Signed.{lt_z}
use Rattle.std.specs.Int.{w128}
use Rattle.xt_model.specs.Limits.{most_product}
use Rattle.std.specs.List.{All}
use Rattle.std.proofs.lemmas.Int.{ints}
use Rattle.xt_model.specs.Sound.{IsProduct}
use Rattle.eco_warm.specs.Edits.{coefs_left, coef_moved, total}
use Rattle.eco_warm.proofs.Made.{few_left, base_is, base_past, sink_made}
use Rattle.eco_warm.proofs.net.sink_left.Goals.{then-base-lt0-via-then-base-lt0, then-base-lt0-via-else-base-lt0+then-base-gt-MOST_PRODUCT}
use Rattle.eco_warm.proofs.net.sink_left.Goals as goal

-- the base as it is computed at 128 bits
as_sum : (base x y : ℤ) → pos 0 ≤ℤ base → base ≤ℤ most_product → pos 0 ≤ℤ x → x ≤ℤ pos (2 ^ 122) → pos 0 ≤ℤ y → y ≤ℤ pos (2 ^ 122)
    → to_z w128 (of_z w128 (to_z w128 (of_z w128 (to_z w128 (of_z w128 base) +ℤ to_z w128 (of_z w128 x))) -ℤ to_z w128 (of_z w128 y))) ≡ ((base +ℤ x) -ℤ y)
as_sum base x y b1 b2 x1 x2 y1 y2 = omega (arith, ints)

below : (z : ℤ) → lt_z z (pos 0) ≡ true → pos 0 ≤ℤ z → ⊥
below z h k = omega (arith, ints)

above : (z : ℤ) → lt_z most_product z ≡ true → z ≤ℤ most_product → ⊥
above z h k = omega (arith, ints)

at_least : (z : ℤ) → lt_z z (pos 0) ≡ false → pos 0 ≤ℤ z
at_least z h = omega (arith, ints)

at_most : (z : ℤ) → lt_z most_product z ≡ false → z ≤ℤ most_product
at_most z h = omega (arith, ints)

pub total-requires-2-clause-few : goal.total-requires-2-clause-few
total-requires-2-clause-few c =
    let m = c.args.moving in
    let o = c.args.other.0 in
    let ks = c.args.couplings.now in
    let is : c.in_ok-coefs.coefs.items ≡ coefs_left m o ks c.args.sink.now.coefs = c.in_ok-coefs.ensures.ok ∙ ap (coefs_left m o ks) c.as_slice-before.ensures in
    few_left m o ks c.args.sink.now.coefs c.deref.result.now c.requires.sound.count c.requires.bounds.few (c.deref.ensures.value ∙ is)

pub returns-then-base-lt0-clause-impossible : goal.returns-then-base-lt0-clause-impossible
returns-then-base-lt0-clause-impossible c =
    let m = c.args.moving in
    let o = c.args.other.0 in
    let ks = c.args.couplings.now in
    let s = c.args.sink.now in
    let is : c.in_ok-coefs.coefs.items ≡ coefs_left m o ks s.coefs = c.in_ok-coefs.ensures.ok ∙ ap (coefs_left m o ks) c.as_slice-before.ensures in
    let b = c.requires.sound.base in
    let x = c.total.ensures in
    let y = c.total-2.ensures in
    let base : ℤ = (s.base +ℤ c.total.result) -ℤ c.total-2.result in
    let sum : base ≡ (s.base +ℤ coef_moved m o ks s.coefs) =
    base_is m o ks s c.deref.result.now base c.total.result c.total-2.result c.requires.sound.count (c.deref.ensures.value ∙ is) (x.value ∙ ap total c.as_slice-before.ensures) y.value refl in
    let fits = as_sum s.base c.total.result c.total-2.result b.least b.most x.low x.high y.low y.high in
    elim c.then-base-lt0.branch [
      | then-base-lt0-via-then-base-lt0 w ↦
          base_past m o ks s base sum (λ low high. below base (rw fits at w.if-base-lt0.true) low)
      | then-base-lt0-via-else-base-lt0+then-base-gt-MOST_PRODUCT w ↦
          base_past m o ks s base sum (λ low high. above base (rw fits at w.if-base-gt-MOST_PRODUCT.true) high)
    ]

pub returns-clause-ok : goal.returns-clause-ok
returns-clause-ok c =
    let m = c.args.moving in
    let o = c.args.other.0 in
    let ks = c.args.couplings.now in
    let s = c.args.sink.now in
    let is : c.in_ok-coefs.coefs.items ≡ coefs_left m o ks s.coefs = c.in_ok-coefs.ensures.ok ∙ ap (coefs_left m o ks) c.as_slice-before.ensures in
    let b = c.requires.sound.base in
    let x = c.total.ensures in
    let y = c.total-2.ensures in
    sink_made m o ks s c.in_ok-name.name _ c.from_vec.result (c.in_ok-name.ensures ∙ c.bytes.ensures.value)
    (base_is m o ks s c.deref.result.now _ c.total.result c.total-2.result c.requires.sound.count (c.deref.ensures.value ∙ is) (x.value ∙ ap total c.as_slice-before.ensures) y.value
    (as_sum s.base c.total.result c.total-2.result b.least b.most x.low x.high y.low y.high))
    (c.from_vec.ensures ∙ is)

pub returns-clause-possible : goal.returns-clause-possible
returns-clause-possible c =
    record {
      base = record {
        least = at_least _ c.if-base-lt0.false;
        most = at_most _ c.if-base-gt-MOST_PRODUCT.false;
      };
      coefs = subst (All IsProduct) (sym c.from_vec.ensures) c.in_ok-coefs.ensures.range;
    }
