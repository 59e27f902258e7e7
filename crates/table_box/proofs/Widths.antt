-- Products and sums of a table's numbers and distances fit in 128 bits.
use Rattle.std.proofs.Common.{◌≡◌, ℕ, ◌*◌, ◌^◌, ◌∙◌, ap, ℤ, pos, neg_ℤ, ◌+ℤ◌, ◌*ℤ◌, ◌≤ℤ◌, arith, to_z, of_z, to_z-of_z, w64, SFits}
use Rattle.std.specs.Int.{w128, int_div_euclid}
use Rattle.std.proofs.lemmas.Int.{ints}
use Rattle.std.proofs.Math.IntN.{*ℤ_comm, zero-*ℤ}
use Rattle.xt_model.specs.Tables.{IsTableNumber}
use Rattle.table_box.proofs.Products.{mul_mono, mul_add_right}

-- a product of two numbers of 128 bits, as the machine reads them
pub wide_factors_back : (a b x y : ℤ) → x ≡ a → y ≡ b → SFits w128 a → SFits w128 b → to_z w128 (of_z w128 x) *ℤ to_z w128 (of_z w128 y) ≡ a *ℤ b
wide_factors_back a b x y e f p q =
    ap (λ n. to_z w128 (of_z w128 n) *ℤ to_z w128 (of_z w128 y)) e
    ∙ (ap (λ n. to_z w128 (of_z w128 a) *ℤ to_z w128 (of_z w128 n)) f
    ∙ (ap (λ n. n *ℤ to_z w128 (of_z w128 b)) (to_z-of_z p) ∙ ap (λ n. a *ℤ n) (to_z-of_z q)))

-- where the product fits too, it is what the machine makes
pub product_back : (a b x y : ℤ) → x ≡ a → y ≡ b → SFits w128 a → SFits w128 b → SFits w128 (a *ℤ b)
    → to_z w128 (of_z w128 (to_z w128 (of_z w128 x) *ℤ to_z w128 (of_z w128 y))) ≡ a *ℤ b
product_back a b x y e f p q r = ap (λ n. to_z w128 (of_z w128 n)) (wide_factors_back a b x y e f p q) ∙ to_z-of_z r

-- a number of at most m in size, times a distance of at most n
pub product_most : (m n : ℕ) (x d : ℤ) → x ≤ℤ pos m → pos 0 ≤ℤ d → d ≤ℤ pos n → (x *ℤ d) ≤ℤ pos (m * n)
product_most m n x d h p q =
    let a = mul_mono x (pos m) d h p in
    let b = mul_mono d (pos n) (pos m) q (omega (arith, ints)) in
    let c = *ℤ_comm (pos m) d in
    let e : pos n *ℤ pos m ≡ pos (m * n) = ap pos (omega arith) in
    omega (arith, ints, a, b, c, e)

pub product_least : (m n : ℕ) (x d : ℤ) → neg_ℤ (pos m) ≤ℤ x → pos 0 ≤ℤ d → d ≤ℤ pos n → neg_ℤ (pos (m * n)) ≤ℤ (x *ℤ d)
product_least m n x d h p q =
    let a = mul_mono (neg_ℤ (pos m)) x d h p in
    let b = product_most m n (pos m) d (omega (arith, ints)) p q in
    let c = mul_add_right (neg_ℤ (pos m)) (pos m) d in
    let e : neg_ℤ (pos m) +ℤ pos m ≡ pos 0 = omega (arith, ints) in
    let f = ap (λ n. n *ℤ d) e in
    let g = zero-*ℤ d in
    omega (arith, ints, a, b, c, f, g)

-- a product of two numbers of 64 bits, as the machine reads them
pub factors_back : (a b : ℤ) → SFits w64 a → SFits w64 b → to_z w64 (of_z w64 a) *ℤ to_z w64 (of_z w64 b) ≡ a *ℤ b
factors_back a b p q = ap (λ n. n *ℤ to_z w64 (of_z w64 b)) (to_z-of_z p) ∙ ap (λ n. a *ℤ n) (to_z-of_z q)

-- the same, with the first factor known by another name
pub product_named : (x v d : ℤ) → x ≡ v → SFits w64 x → SFits w64 d → to_z w64 (of_z w64 x) *ℤ to_z w64 (of_z w64 d) ≡ v *ℤ d
product_named x v d same p q = factors_back x d p q ∙ ap (λ n. n *ℤ d) same

-- a sum of two numbers of at most 2^123 in size is what the machine makes
pub wide_sum_fits : (a b : ℤ) → neg_ℤ (pos (2 ^ 123)) ≤ℤ a → a ≤ℤ pos (2 ^ 123) → neg_ℤ (pos (2 ^ 123)) ≤ℤ b → b ≤ℤ pos (2 ^ 123)
    → SFits w128 (to_z w128 (of_z w128 a) +ℤ to_z w128 (of_z w128 b))
wide_sum_fits a b p q r s = omega (arith, ints)

pub wide_sum_back : (a b : ℤ) → neg_ℤ (pos (2 ^ 123)) ≤ℤ a → a ≤ℤ pos (2 ^ 123) → neg_ℤ (pos (2 ^ 123)) ≤ℤ b → b ≤ℤ pos (2 ^ 123)
    → to_z w128 (of_z w128 (to_z w128 (of_z w128 a) +ℤ to_z w128 (of_z w128 b))) ≡ a +ℤ b
wide_sum_back a b p q r s = omega (arith, ints)

pub sum_same : (a a' b b' : ℤ) → a ≡ a' → b ≡ b' → a +ℤ b ≡ a' +ℤ b'
sum_same a a' b b' e f = ap (λ n. n +ℤ b) e ∙ ap (λ n. a' +ℤ n) f

-- a quotient of two numbers of 128 bits, as the machine reads them
pub fraction_back : (x y a b : ℤ) → SFits w128 x → SFits w128 y → x ≡ a → y ≡ b → int_div_euclid (to_z w128 (of_z w128 x)) (to_z w128 (of_z w128 y)) ≡ int_div_euclid a b
fraction_back x y a b p q e f =
    ap (λ n. int_div_euclid n (to_z w128 (of_z w128 y))) (to_z-of_z p ∙ e) ∙ ap (λ n. int_div_euclid a n) (to_z-of_z q ∙ f)

-- a number of a table fits in 64 bits
pub number_fits : (x : ℤ) → IsTableNumber x → SFits w64 (to_z w128 (of_z w128 x))
number_fits x n = omega (arith, ints, n)

pub number_back : (x : ℤ) → IsTableNumber x → to_z w64 (of_z w64 (to_z w128 (of_z w128 x))) ≡ x
number_back x n = omega (arith, ints, n)
