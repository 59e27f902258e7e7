-- A product divided, by its quotient and its remainder.
use Rattle.std.proofs.Common.{◌≡◌, ℕ, zero, suc, ◌+◌, ◌*◌, ◌/◌, ◌%◌, ◌^◌, ◌≤◌, ◌<◌, refl, sym, ap, subst, ◌∙◌, ℤ, pos, negsuc, arith}
use Rattle.std.specs.Prelude.{unsigned_abs}
use Rattle.std.proofs.lemmas.Int.{ints}
use Rattle.std.proofs.lemmas.Nat.{div-mul-add, div-add-mod'}
use Rattle.std.proofs.Math.Nat.{add-mul, mul_assoc, mul_comm, mod-lt}
use Rattle.xt_model.specs.Sound.{IsProduct}
use Rattle.xt_meaning.proofs.Growth.{IsNatural}
use Rattle.eco_warm.specs.Edits.{in_proportion}

sum_divided : (a b d : ℕ) → 0 < d → (a * d + b) / d ≡ a + b / d
sum_divided a b d h =
    let e : b / d * d + b % d ≡ b = div-add-mod' b d in
    let m : (a + b / d) * d ≡ a * d + b / d * d = add-mul a (b / d) d in
    let k : (a + b / d) * d + b % d ≡ a * d + b = omega (arith, e, m) in
    subst (λ n. n / d ≡ a + b / d) k (div-mul-add (a + b / d) d (b % d) (mod-lt b h))

pub by_parts : (c l d : ℕ) → 0 < d → (c / d) * l + (c % d) * l / d ≡ c * l / d
by_parts c l d h =
    let e : c / d * d + c % d ≡ c = div-add-mod' c d in
    let m : (c / d * d + c % d) * l ≡ c / d * d * l + c % d * l = add-mul (c / d * d) (c % d) l in
    let t : c / d * d * l ≡ c / d * l * d = mul_assoc (c / d) d l ∙ (ap (λ n. c / d * n) (mul_comm d l) ∙ sym (mul_assoc (c / d) l d)) in
    let k : c / d * l * d + c % d * l ≡ c * l = ap (λ n. n + c % d * l) (sym t) ∙ (sym m ∙ ap (λ n. n * l) e) in
    sym (sum_divided (c / d * l) (c % d * l) d h) ∙ ap (λ n. n / d) k

-- the same of signed numbers that are not below 0
pub proportion_is : (cap left coef : ℤ) → IsNatural cap → (cap ≡ pos 0 → ⊥) → IsNatural left → IsNatural coef
    → in_proportion cap left coef ≡ pos (unsigned_abs coef * unsigned_abs left / unsigned_abs cap)
proportion_is (pos zero) left coef a n b c = absurd (n refl)
proportion_is (negsuc d) left coef a n b c = absurd (omega (arith, ints, a))
proportion_is (pos (suc d)) (negsuc l) coef a n b c = absurd (omega (arith, ints, b))
proportion_is (pos (suc d)) (pos l) (negsuc x) a n b c = absurd (omega (arith, ints, c))
proportion_is (pos (suc d)) (pos l) (pos x) a n b c = refl

-- where a part of the sum passes 2^102, the whole does
pub part_past : (c l d part : ℕ) → 0 < d → part ≤ (c / d) * l + (c % d) * l / d → 2 ^ 102 < part → 2 ^ 102 < c * l / d
part_past c l d part h k p = let e = by_parts c l d h in omega (arith, e, k, p)

pub zero_stays : (cap left coef : ℤ) → cap ≡ pos 0 → coef ≡ in_proportion cap left coef
zero_stays cap left coef h = rw h refl

pub proportion_past : (cap left coef : ℤ) → IsNatural cap → (cap ≡ pos 0 → ⊥) → IsNatural left → IsNatural coef
    → 2 ^ 102 < unsigned_abs coef * unsigned_abs left / unsigned_abs cap → IsProduct (in_proportion cap left coef) → ⊥
proportion_past cap left coef a n b c p h = let e = proportion_is cap left coef a n b c in let most = h.most in omega (arith, ints, e, most, p)

pub proportion_product : (cap left coef : ℤ) (part : ℕ) → IsNatural cap → (cap ≡ pos 0 → ⊥) → IsNatural left → IsNatural coef
    → part ≡ unsigned_abs coef * unsigned_abs left / unsigned_abs cap → part ≤ 2 ^ 102 → (pos part ≡ in_proportion cap left coef) × IsProduct (pos part)
proportion_product cap left coef part a n b c is most =
    let e = proportion_is cap left coef a n b c in
    (ap pos is ∙ sym e, record { least = omega (arith, ints); most = omega (arith, ints, most) })
