-- Quotients of distances by a period, and numbers as they are stored.
use Rattle.std.proofs.Common.{◌≡◌, ℕ, ◌^◌, ◌<◌, refl, sym, Bool, true, ◌&&◌, ℤ, pos, negsuc, neg_ℤ, ◌-ℤ◌, ◌≤ℤ◌, to_z, of_z, arith}
use Rattle.std.specs.Prelude.{int_le}
use Rattle.std.specs.Int.{int_div_euclid, w128}
use Rattle.std.proofs.lemmas.Int.{ints}
use Rattle.std.proofs.Math.Nat.{div-le_self}

-- a quotient is no larger in size than what is divided
quotient_low : (x : ℤ) (d m : ℕ) → 0 < d → neg_ℤ (pos m) ≤ℤ x → neg_ℤ (pos m) ≤ℤ int_div_euclid x (pos d)
quotient_low (pos a) d m p h = omega (arith, ints)
quotient_low (negsuc a) d m p h = let k = div-le_self a d in omega (arith, ints, k)

quotient_high : (x : ℤ) (d m : ℕ) → 0 < d → x ≤ℤ pos m → int_div_euclid x (pos d) ≤ℤ pos m
quotient_high (pos a) d m p h = let k = div-le_self a d in omega (arith, ints, k)
quotient_high (negsuc a) d m p h = omega (arith, ints)

-- the same for a period of 1 or more
pub periods_low : (x t : ℤ) (m : ℕ) → pos 1 ≤ℤ t → neg_ℤ (pos m) ≤ℤ x → neg_ℤ (pos m) ≤ℤ int_div_euclid x t
periods_low x (pos d) m p h = quotient_low x d m (omega (arith, ints, p)) h
periods_low x (negsuc d) m p h = absurd (omega (arith, ints, p))

pub periods_high : (x t : ℤ) (m : ℕ) → pos 1 ≤ℤ t → x ≤ℤ pos m → int_div_euclid x t ≤ℤ pos m
periods_high x (pos d) m p h = quotient_high x d m (omega (arith, ints, p)) h
periods_high x (negsuc d) m p h = absurd (omega (arith, ints, p))

-- the test of two stored quotients
pub stored_test : (r s x y : ℤ) → neg_ℤ (pos (2 ^ 64)) ≤ℤ r → r ≤ℤ pos (2 ^ 64) → neg_ℤ (pos (2 ^ 64)) ≤ℤ s → s ≤ℤ pos (2 ^ 64) → r ≡ x → s ≡ y
    → int_le (to_z w128 (of_z w128 (pos 0 -ℤ to_z w128 (of_z w128 r)))) (to_z w128 (of_z w128 s)) ≡ int_le (neg_ℤ x) y
stored_test r s x y a b c d e f =
    let g : to_z w128 (of_z w128 (pos 0 -ℤ to_z w128 (of_z w128 r))) ≡ neg_ℤ r = omega (arith, ints, a, b) in
    let h : to_z w128 (of_z w128 s) ≡ s = omega (arith, ints, c, d) in
    rw (g, h, e, f) refl

-- live windows overlap where their active ranges meet
pub live_meet : (a b m r : Bool) → true ≡ a → true ≡ b → r ≡ m → r ≡ a && (b && m)
live_meet a b m r p q h = rw (sym p, sym q) h
