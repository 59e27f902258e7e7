-- Products of signed numbers, and sums of two weighted numbers.
use Rattle.std.proofs.Common.{◌≡◌, ◌+◌, ◌*◌, ◌≤◌, ap, ℤ, pos, negsuc, ◌+ℤ◌, ◌*ℤ◌, ◌≤ℤ◌, arith, mul-le-mul_right}
use Rattle.std.proofs.lemmas.Int.{ints}
use borrow.Author.Differences.{product_is, sum_is_lem, up, down}
use Rattle.table_box.specs.Mixes.{mixed}

pub mul_add_right : (a b c : ℤ) → (a +ℤ b) *ℤ c ≡ (a *ℤ c) +ℤ (b *ℤ c)
mul_add_right a b c = let e = sum_is_lem a b in omega (arith, ints, product_is, ap (λ n. n * up c) e, ap (λ n. n * down c) e)

pub mul_add_left : (a b c : ℤ) → c *ℤ (a +ℤ b) ≡ (c *ℤ a) +ℤ (c *ℤ b)
mul_add_left a b c = let e = sum_is_lem a b in omega (arith, ints, product_is, ap (λ n. n * up c) e, ap (λ n. n * down c) e)

pub mul_swap : (a b c : ℤ) → (a *ℤ b) *ℤ c ≡ (a *ℤ c) *ℤ b
mul_swap a b c =
    let p = product_is a b in let q = product_is a c in
    omega (
      arith,
      ints,
      product_is,
      ap (λ n. n * up c) p.0,
      ap (λ n. n * down c) p.0,
      ap (λ n. n * up c) p.1,
      ap (λ n. n * down c) p.1,
      ap (λ n. n * up b) q.0,
      ap (λ n. n * down b) q.0,
      ap (λ n. n * up b) q.1,
      ap (λ n. n * down b) q.1,
    )

pub mul_mono : (a b c : ℤ) → a ≤ℤ b → pos 0 ≤ℤ c → (a *ℤ c) ≤ℤ (b *ℤ c)
mul_mono a b (pos n) h k =
    let e : up a + down b ≤ up b + down a = omega (arith, ints) in
    omega (arith, ints, product_is, mul-le-mul_right n e)
mul_mono a b (negsuc n) h k = absurd (omega (arith, ints))

-- the weight that moves from the first to the second changes the sum by the difference of both
moved : (p q b a d : ℤ) → mixed p q b (a +ℤ d) +ℤ (p *ℤ d) ≡ mixed p q (b +ℤ d) a +ℤ (q *ℤ d)
moved p q b a d = let x = mul_add_left a d q in let y = mul_add_left b d p in omega (arith, ints)

-- where q is no less than p the sum rises with the distance above
pub mixed_rises : (p q b a b' a' d : ℤ) → p ≤ℤ q → pos 0 ≤ℤ d → a' ≡ a +ℤ d → b ≡ b' +ℤ d → mixed p q b a ≤ℤ mixed p q b' a'
mixed_rises p q b a b' a' d h k e f =
    let m = moved p q b' a d in
    let x : q *ℤ a' ≡ q *ℤ (a +ℤ d) = ap (λ n. q *ℤ n) e in
    let y : p *ℤ b ≡ p *ℤ (b' +ℤ d) = ap (λ n. p *ℤ n) f in
    let z = mul_mono p q d h k in
    omega (arith, ints)

pub mixed_falls : (p q b a b' a' d : ℤ) → q ≤ℤ p → pos 0 ≤ℤ d → a' ≡ a +ℤ d → b ≡ b' +ℤ d → mixed p q b' a' ≤ℤ mixed p q b a
mixed_falls p q b a b' a' d h k e f =
    let m = moved p q b' a d in
    let x : q *ℤ a' ≡ q *ℤ (a +ℤ d) = ap (λ n. q *ℤ n) e in
    let y : p *ℤ b ≡ p *ℤ (b' +ℤ d) = ap (λ n. p *ℤ n) f in
    let z = mul_mono q p d h k in
    omega (arith, ints)

-- the sum is no more than the bound of both numbers times both distances, and no less
pub mixed_most : (m p q b a w : ℤ) → p ≤ℤ m → q ≤ℤ m → pos 0 ≤ℤ b → pos 0 ≤ℤ a → w ≡ b +ℤ a → mixed p q b a ≤ℤ (m *ℤ w)
mixed_most m p q b a w hp hq hb ha e =
    let x = mul_mono p m b hp hb in let y = mul_mono q m a hq ha in
    let z = mul_add_left b a m in let k : m *ℤ w ≡ m *ℤ (b +ℤ a) = ap (λ n. m *ℤ n) e in
    omega (arith, ints)

pub mixed_least : (m p q b a w : ℤ) → m ≤ℤ p → m ≤ℤ q → pos 0 ≤ℤ b → pos 0 ≤ℤ a → w ≡ b +ℤ a → (m *ℤ w) ≤ℤ mixed p q b a
mixed_least m p q b a w hp hq hb ha e =
    let x = mul_mono m p b hp hb in let y = mul_mono m q a hq ha in
    let z = mul_add_left b a m in let k : m *ℤ w ≡ m *ℤ (b +ℤ a) = ap (λ n. m *ℤ n) e in
    omega (arith, ints)

-- four weighted numbers, as a mix of two mixes: first along the second distances, then along the first
pub corners_by_first : (v00 v01 v10 v11 sb sa cb ca : ℤ)
    → (((v00 *ℤ sb) *ℤ cb) +ℤ ((v01 *ℤ sb) *ℤ ca)) +ℤ (((v10 *ℤ sa) *ℤ cb) +ℤ ((v11 *ℤ sa) *ℤ ca)) ≡ mixed (mixed v00 v01 cb ca) (mixed v10 v11 cb ca) sb sa
corners_by_first v00 v01 v10 v11 sb sa cb ca =
    let a = mul_add_right (v00 *ℤ cb) (v01 *ℤ ca) sb in let b = mul_add_right (v10 *ℤ cb) (v11 *ℤ ca) sa in
    let w = mul_swap v00 sb cb in let x = mul_swap v01 sb ca in let y = mul_swap v10 sa cb in let z = mul_swap v11 sa ca in
    omega (arith, ints)

pub corners_by_second : (v00 v01 v10 v11 sb sa cb ca : ℤ)
    → (((v00 *ℤ sb) *ℤ cb) +ℤ ((v01 *ℤ sb) *ℤ ca)) +ℤ (((v10 *ℤ sa) *ℤ cb) +ℤ ((v11 *ℤ sa) *ℤ ca)) ≡ mixed (mixed v00 v10 sb sa) (mixed v01 v11 sb sa) cb ca
corners_by_second v00 v01 v10 v11 sb sa cb ca =
    let a = mul_add_right (v00 *ℤ sb) (v10 *ℤ sa) cb in let b = mul_add_right (v01 *ℤ sb) (v11 *ℤ sa) ca in
    omega (arith, ints)
