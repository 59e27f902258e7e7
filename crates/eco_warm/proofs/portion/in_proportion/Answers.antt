use Rattle.std.proofs.Common.{◌≡◌, zero, suc, ◌*◌, ◌/◌, ℤ, pos, negsuc, ◌≤ℤ◌, to_z, of_z, w64, refl, ap, sym, ◌∙◌, arith}
use Rattle.std.specs.Prelude.{unsigned_abs}
use Rattle.std.specs.Int.{w128}
use Rattle.std.proofs.lemmas.Int.{ints}
use Rattle.xt_model.specs.Sound.{IsProduct}
use Rattle.eco_warm.specs.Edits.{in_proportion}
use Rattle.eco_warm.proofs.portion.in_proportion.Goals as goal

-- of numbers none below 0 it is the quotient of their sizes
quotient : (cap left coef : ℤ) → pos 0 ≤ℤ cap → (cap ≡ pos 0 → ⊥) → pos 0 ≤ℤ left → pos 0 ≤ℤ coef
    → in_proportion cap left coef ≡ pos (unsigned_abs coef * unsigned_abs left / unsigned_abs cap)
quotient (pos zero) left coef h some k j = absurd (some refl)
quotient (pos (suc c)) (pos l) (pos x) h some k j = refl
quotient (pos (suc c)) (pos l) (negsuc x) h some k j = absurd (omega (arith, ints, j))
quotient (pos (suc c)) (negsuc l) coef h some k j = absurd (omega (arith, ints, k))
quotient (negsuc c) left coef h some k j = absurd (omega (arith, ints, h))

pub returns-in_err-part : goal.returns-in_err-part
returns-in_err-part c =
    let cap : to_z w64 (of_z w64 c.args.cap) ≡ c.args.cap = omega (arith, ints, c.requires.cap.least, c.requires.cap.most) in
    let left : to_z w64 (of_z w64 c.args.left) ≡ c.args.left = omega (arith, ints, c.requires.left.least, c.requires.left.most) in
    let coef : to_z w128 (of_z w128 c.args.coef) ≡ c.args.coef = omega (arith, ints, c.requires.coef.least, c.requires.coef.most) in
    let is = quotient c.args.cap c.args.left c.args.coef c.requires.cap.least (λ (e : c.args.cap ≡ pos 0). c.if-cap-eq0.false (ap (of_z w64) e)) c.requires.left.least c.requires.coef.least in
    let past = rw (c.from-cap.ensures, c.unsigned_abs.ensures.value, cap, c.from-left.ensures, c.unsigned_abs-2.ensures.value, left, c.unsigned_abs-3.ensures.value, coef) at c.in_err-part.ensures in
    rw c.from_residual.ensures (λ (p : IsProduct (in_proportion c.args.cap c.args.left c.args.coef)). omega (arith, ints, is, past, p.most))

pub returns : goal.returns
returns c =
    let cap : to_z w64 (of_z w64 c.args.cap) ≡ c.args.cap = omega (arith, ints, c.requires.cap.least, c.requires.cap.most) in
    let left : to_z w64 (of_z w64 c.args.left) ≡ c.args.left = omega (arith, ints, c.requires.left.least, c.requires.left.most) in
    let coef : to_z w128 (of_z w128 c.args.coef) ≡ c.args.coef = omega (arith, ints, c.requires.coef.least, c.requires.coef.most) in
    let is = quotient c.args.cap c.args.left c.args.coef c.requires.cap.least (λ (e : c.args.cap ≡ pos 0). c.if-cap-eq0.false (ap (of_z w64) e)) c.requires.left.least c.requires.coef.least in
    let part = rw (c.from-cap.ensures, c.unsigned_abs.ensures.value, cap, c.from-left.ensures, c.unsigned_abs-2.ensures.value, left, c.unsigned_abs-3.ensures.value, coef) at c.in_ok-part.ensures.0 in
    let fits : to_z w128 c.in_ok-part.part ≡ pos c.in_ok-part.part = omega (arith, ints, c.in_ok-part.ensures.1) in
    (fits ∙ (ap pos part ∙ sym is), record { least = omega (arith, ints, fits); most = omega (arith, ints, fits, c.in_ok-part.ensures.1) })
