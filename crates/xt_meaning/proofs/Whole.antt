-- Factors of whole capacitors make the sums of whole numbers: no rounding is left but that of the delay.
use Rattle.std.proofs.Common.{◌≡◌, ℕ, ◌+◌, ◌*◌, ◌<◌, ap, ◌∙◌, List, [], ◌∷◌, map, ℤ, pos, negsuc, ◌+ℤ◌, ◌*ℤ◌, ◌≤ℤ◌, arith}
use Rattle.std.specs.Int.{int_div_euclid}
use Rattle.std.proofs.lemmas.Int.{ints}
use Rattle.xt_model.specs.declared.net.SinkPin.{SinkPin}
use Rattle.xt_model.specs.declared.net.Net.{Net}
use Rattle.xt_meaning.specs.Wires.{product_sum, cap_sum, load_of, elmore_delay}
use Rattle.xt_meaning.proofs.Order.{least_antisym}
use Rattle.xt_meaning.proofs.Meeting.{floor_from, floor_to}

-- four times a product
four_times : (m : ℕ) (c : ℤ) → (pos (4 * m) *ℤ c) ≡ (pos 4 *ℤ (pos m *ℤ c))
four_times m (pos n) = let k : (4 * m) * n ≡ 4 * (m * n) = omega arith in omega (arith, ints, k)
four_times m (negsuc n) = let k : (4 * m) * (n + 1) ≡ 4 * (m * (n + 1)) = omega arith in omega (arith, ints, k)

whole_products : (ms : List ℕ) (cs : List ℤ) → product_sum (map (λ m. 4 * m) ms) cs ≡ (pos 4 *ℤ product_sum ms cs)
whole_products [] cs = omega (arith, ints)
whole_products (m ∷ ms) [] = omega (arith, ints)
whole_products (m ∷ ms) (c ∷ cs) =
    let a = four_times m c in
    let b = whole_products ms cs in
    omega (arith, ints, a, b)

-- a fraction in lowest terms or not
floor_reduced : (x : ℤ) (d : ℕ) → 0 < d → int_div_euclid (pos 4 *ℤ x) (pos (4 * d)) ≡ int_div_euclid x (pos d)
floor_reduced x d p =
    let a = int_div_euclid (pos 4 *ℤ x) (pos (4 * d)) in
    let b = int_div_euclid x (pos d) in
    let low : (b *ℤ pos d) ≤ℤ x = floor_to b x d p (omega (arith, ints)) in
    let high : (a *ℤ pos (4 * d)) ≤ℤ (pos 4 *ℤ x) = floor_to a (pos 4 *ℤ x) (4 * d) (omega arith) (omega (arith, ints)) in
    let ea = scaled_by a d in
    let eb = scaled_by b d in
    let first : a ≤ℤ b = floor_from a x d p (omega (arith, ints, high, ea)) in
    let second : b ≤ℤ a = floor_from b (pos 4 *ℤ x) (4 * d) (omega arith) (omega (arith, ints, low, eb)) in
    least_antisym a b first second where
      scaled_by : (c : ℤ) (e : ℕ) → (c *ℤ pos (4 * e)) ≡ (pos 4 *ℤ (c *ℤ pos e))
      scaled_by (pos n) e = let k : n * (4 * e) ≡ 4 * (n * e) = omega arith in omega (arith, ints, k)
      scaled_by (negsuc n) e = let k : (n + 1) * (4 * e) ≡ 4 * ((n + 1) * e) = omega arith in omega (arith, ints, k)

quarter_of : (x : ℤ) → int_div_euclid (pos 4 *ℤ x) (pos 4) ≡ x
quarter_of x =
    let a = int_div_euclid (pos 4 *ℤ x) (pos 4) in
    let high : (a *ℤ pos 4) ≤ℤ (pos 4 *ℤ x) = floor_to a (pos 4 *ℤ x) 4 (omega arith) (omega (arith, ints)) in
    let low : x ≤ℤ a = floor_from x (pos 4 *ℤ x) 4 (omega arith) (omega (arith, ints)) in
    least_antisym a x (omega (arith, ints, high)) low

pub whole_loads : (ms : List ℕ) (net : Net) → load_of (map (λ m. 4 * m) ms) net ≡ (net.load +ℤ cap_sum ms net.couplings)
whole_loads ms net =
    let x = cap_sum ms net.couplings in
    let a = whole_products ms (map (λ k. k.cap) net.couplings) in
    ap (λ y. net.load +ℤ int_div_euclid y (pos 4)) a ∙ ap (λ y. net.load +ℤ y) (quarter_of x)

pub whole_wires : (ms : List ℕ) (s : SinkPin) → elmore_delay ((pos 4 *ℤ s.base) +ℤ product_sum (map (λ m. 4 * m) ms) s.coefs) ≡ int_div_euclid (s.base +ℤ product_sum ms s.coefs) (pos 1000000)
whole_wires ms s =
    let a = whole_products ms s.coefs in
    let b : ((pos 4 *ℤ s.base) +ℤ product_sum (map (λ m. 4 * m) ms) s.coefs) ≡ (pos 4 *ℤ (s.base +ℤ product_sum ms s.coefs)) = omega (arith, ints, a) in
    ap elmore_delay b ∙ floor_reduced (s.base +ℤ product_sum ms s.coefs) 1000000 (omega arith)
