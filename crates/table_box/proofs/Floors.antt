-- Floors of fractions.
use Rattle.std.proofs.Common.{◌≡◌, ℕ, zero, suc, ◌+◌, ◌*◌, ◌/◌, ◌<◌, ◌≤◌, sym, ◌∙◌, ap, subst, ℤ, pos, negsuc, neg_ℤ, ◌*ℤ◌, ◌≤ℤ◌, arith}
use Rattle.std.specs.Int.{int_div_euclid}
use Rattle.std.proofs.lemmas.Int.{ints}
use Rattle.std.proofs.lemmas.Nat.{le-div, div-mul-add}
use Rattle.std.proofs.Math.Nat.{mul-div-mul_right, div-mul-le_self, div-div-eq-div-mul}

div_mono : (m n d : ℕ) → 0 < d → m ≤ n → m / d ≤ n / d
div_mono m n d p h = le-div (m / d) n d p (omega (arith, div-mul-le_self m d))

-- the floor rises with the number
pub floor_mono : (x y : ℤ) (d : ℕ) → 0 < d → x ≤ℤ y → int_div_euclid x (pos d) ≤ℤ int_div_euclid y (pos d)
floor_mono (pos a) (pos b) d p h = let k : a / d ≤ b / d = div_mono a b d p (omega (arith, ints)) in omega (arith, ints)
floor_mono (pos a) (negsuc b) d p h = absurd (omega (arith, ints))
floor_mono (negsuc a) (pos b) d p h = omega (arith, ints)
floor_mono (negsuc a) (negsuc b) d p h = let k : b / d ≤ a / d = div_mono b a d p (omega (arith, ints)) in omega (arith, ints)

-- the floor of a fraction is that of the fraction with both parts k times as large
pub floor_scaled : (q : ℤ) (d k : ℕ) → 0 < k → int_div_euclid (q *ℤ pos k) (pos (d * k)) ≡ int_div_euclid q (pos d)
floor_scaled (pos a) d k p = ap pos (mul-div-mul_right a d p)
floor_scaled (negsuc a) d zero p = absurd (omega arith)
floor_scaled (negsuc a) d (suc j) p =
    let whole : suc a * suc j ≡ suc (a * suc j + j) = omega arith in
    let area : d * suc j ≡ suc j * d = omega arith in
    let part : (a * suc j + j) / (suc j * d) ≡ a / d = sym (div-div-eq-div-mul (a * suc j + j) (suc j) d) ∙ ap (λ n. n / d) (div-mul-add a (suc j) j (omega arith)) in
    ap (λ n. int_div_euclid (neg_ℤ (pos n)) (pos (d * suc j))) whole ∙ (ap (λ n. negsuc ((a * suc j + j) / n)) area ∙ ap negsuc part)

floor_one : (m : ℤ) → int_div_euclid m (pos 1) ≡ m
floor_one (pos a) = ap pos (omega arith)
floor_one (negsuc a) = ap negsuc (omega arith)

-- the floor of m times d over d is m
pub floor_whole : (m : ℤ) (d : ℕ) → 0 < d → int_div_euclid (m *ℤ pos d) (pos d) ≡ m
floor_whole m d p =
    let P : ℕ → Type 0 = λ n. int_div_euclid (m *ℤ pos d) (pos n) ≡ int_div_euclid m (pos 1) in
    let e : 1 * d ≡ d = omega arith in
    subst P e (floor_scaled m 1 d p) ∙ floor_one m

-- the floor lies between whole numbers between which the fraction lies
pub floor_most : (x m : ℤ) (d : ℕ) → 0 < d → x ≤ℤ (m *ℤ pos d) → int_div_euclid x (pos d) ≤ℤ m
floor_most x m d p h = let P : ℤ → Type 0 = λ n. int_div_euclid x (pos d) ≤ℤ n in subst P (floor_whole m d p) (floor_mono x (m *ℤ pos d) d p h)

pub floor_least : (x m : ℤ) (d : ℕ) → 0 < d → (m *ℤ pos d) ≤ℤ x → m ≤ℤ int_div_euclid x (pos d)
floor_least x m d p h = let P : ℤ → Type 0 = λ n. n ≤ℤ int_div_euclid x (pos d) in subst P (floor_whole m d p) (floor_mono (m *ℤ pos d) x d p h)
