use Rattle.std.proofs.Common.{◌≡◌, ℕ, ◌*◌, ◌<◌, ◌≤◌, ◌^◌, ◌∙◌, refl, ap, length, get_or, ℤ, pos, SFits, to_z, of_z, to_z-of_z, rules, arith}
use Rattle.std.specs.Int.{w128}
use Rattle.std.specs.Int.RustNames.{unsigned_abs}
use Rattle.std.proofs.lemmas.Int.{ints}
use Rattle.elmore_tree.specs.Sums.{SinkSums, IsSinkSums}
use Rattle.elmore_tree.proofs.QuarterLaws.{quarter_begins, quarter_coef, quarter_turn, quarter_ends}
use Rattle.elmore_tree.proofs.form.SinkForm.quarter_sum.Goals as goal

-- the base, as it is stored
base_stored : (s : SinkSums) (z : ℤ) (n : ℕ) → IsSinkSums s → z ≡ s.base → n ≡ unsigned_abs (to_z w128 (of_z w128 z)) → n ≡ unsigned_abs s.base
base_stored s z n w is_z is_n =
    let most = w.most in
    let base : unsigned_abs s.base ≤ 2 ^ 102 = omega (arith, most) in
    let same : to_z w128 (of_z w128 s.base) ≡ s.base = omega (arith, ints, base) in
    is_n ∙ (ap (λ (x : ℤ). unsigned_abs (to_z w128 (of_z w128 x))) is_z ∙ ap unsigned_abs same)

pub overflow_mul-sum : goal.overflow_mul-sum
overflow_mul-sum c =
    let s = c.args.self.now in
    let is = base_stored s c.base.result c.unsigned_abs-sum.result c.base.ensures.sound c.base.ensures.value c.unsigned_abs-sum.ensures.value in
    let most = c.base.ensures.sound.most in
    omega (arith, is, most)

pub loop-index-init : goal.loop-index-init
loop-index-init c =
    let s = c.args.self.now in
    rw (base_stored s c.base.result c.unsigned_abs-sum.result c.base.ensures.sound c.base.ensures.value c.unsigned_abs-sum.ensures.value) (quarter_begins s c.args.factors.now c.base.ensures.sound)

pub bounds-factors-index : goal.bounds-factors-index
bounds-factors-index c = c.loop-index-test.true

pub bounds-coefs-index : goal.bounds-coefs-index
bounds-coefs-index c =
    let below = c.loop-index-test.true in
    let count = c.requires.count in
    let same = ap length c.coefs-coefs.ensures.value in
    omega (arith, below, count, same)

pub scaled-sum-requires-clause-factor : goal.scaled-sum-requires-clause-factor
scaled-sum-requires-clause-factor c = c.requires.factors c.loop-index.index 0 c.loop-index-test.true

pub scaled-sum-requires-clause-coef : goal.scaled-sum-requires-clause-coef
scaled-sum-requires-clause-coef c =
    let s = c.args.self.now in
    let i = c.loop-index.index in
    let fits : SFits w128 (get_or c.coefs-coefs.result.now i (pos 0)) = search rules in
    let is : c.unsigned_abs.result ≡ unsigned_abs (get_or s.coefs i (pos 0)) = c.unsigned_abs.ensures.value ∙ (ap unsigned_abs (to_z-of_z fits) ∙ ap (λ xs. unsigned_abs (get_or xs i (pos 0))) c.coefs-coefs.ensures.value) in
    let below : i < length s.coefs = let lt = c.loop-index-test.true in let count = c.requires.count in omega (arith, lt, count) in
    let most = quarter_coef s c.args.factors.now i c.loop-index.sum (pos 0) below c.loop-index.invariant in
    omega (arith, is, most)

pub overflow_add-sum : goal.overflow_add-sum
overflow_add-sum c =
    let s = c.args.self.now in
    let i = c.loop-index.index in
    let fits : SFits w128 (get_or c.coefs-coefs.result.now i (pos 0)) = search rules in
    let is : c.unsigned_abs.result ≡ unsigned_abs (get_or s.coefs i (pos 0)) = c.unsigned_abs.ensures.value ∙ (ap unsigned_abs (to_z-of_z fits) ∙ ap (λ xs. unsigned_abs (get_or xs i (pos 0))) c.coefs-coefs.ensures.value) in
    let below : i < length s.coefs = let lt = c.loop-index-test.true in let count = c.requires.count in omega (arith, lt, count) in
    let most = quarter_coef s c.args.factors.now i c.loop-index.sum (pos 0) below c.loop-index.invariant in
    let few = c.scaled-sum.ensures.most in
    omega (arith, is, most, few)

pub loop-index-preserved : goal.loop-index-preserved
loop-index-preserved c =
    let s = c.args.self.now in
    let i = c.loop-index.index in
    let factor = get_or c.args.factors.now i 0 in
    let fits : SFits w128 (get_or c.coefs-coefs.result.now i (pos 0)) = search rules in
    let is : c.unsigned_abs.result ≡ unsigned_abs (get_or s.coefs i (pos 0)) = c.unsigned_abs.ensures.value ∙ (ap unsigned_abs (to_z-of_z fits) ∙ ap (λ xs. unsigned_abs (get_or xs i (pos 0))) c.coefs-coefs.ensures.value) in
    quarter_turn s c.args.factors.now i c.loop-index.sum factor c.scaled-sum.result (pos 0) c.loop-index-test.true c.requires.count (c.requires.factors i 0 c.loop-index-test.true) refl (c.scaled-sum.ensures.value ∙ ap (λ n. factor * n) is) c.loop-index.invariant

pub returns-clause-value : goal.returns-clause-value
returns-clause-value c = quarter_ends c.args.self.now c.args.factors.now c.loop-index.index c.loop-index.sum c.loop-index-test.false c.loop-index.invariant

pub returns-clause-most : goal.returns-clause-most
returns-clause-most c = let most = c.loop-index.invariant.most in omega (arith, most)
