-- A part of the whole in millionths, rounded down, is at most a million.
use Rattle.std.proofs.Common.{◌*◌, ◌/◌, ◌<◌, ℤ, pos, negsuc, ◌*ℤ◌, ◌≤ℤ◌, arith}
use Rattle.std.specs.Int.{int_div_euclid}
use Rattle.std.proofs.lemmas.Int.{ints}
use Rattle.std.proofs.Math.Nat.{div-lt_iff_lt-mul}

pub millionths_low : (part whole : ℤ) → pos 1 ≤ℤ part → part ≤ℤ whole → pos 0 ≤ℤ int_div_euclid (pos 1000000 *ℤ part) whole
millionths_low (pos a) (pos b) h k = omega (arith, ints)
millionths_low (pos a) (negsuc b) h k = absurd (omega (arith, ints, k))
millionths_low (negsuc a) w h k = absurd (omega (arith, ints, h))

pub millionths_high : (part whole : ℤ) → pos 1 ≤ℤ part → part ≤ℤ whole → int_div_euclid (pos 1000000 *ℤ part) whole ≤ℤ pos 1000000
millionths_high (pos a) (pos b) h k = let p : 0 < b = omega (arith, ints, h, k) in let q : (1000000 * a) / b < 1000001 = (div-lt_iff_lt-mul p).1 (omega (arith, ints, h, k)) in omega (arith, ints, q)
millionths_high (pos a) (negsuc b) h k = absurd (omega (arith, ints, k))
millionths_high (negsuc a) w h k = absurd (omega (arith, ints, h))
