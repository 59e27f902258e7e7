-- Windows are ordered by containment: its laws, and what grows with it.
use Rattle.std.proofs.Common.{◌≡◌, ℕ, ◌/◌, ◌<◌, ◌≤◌, Bool, true, false, ◌&&◌, refl, ℤ, pos, negsuc, ◌+ℤ◌, ◌≤ℤ◌, arith}
use Rattle.std.specs.Prelude.{int_le, IsTrue}
use Rattle.std.specs.Int.{int_div_euclid}
use Rattle.std.proofs.Math.Nat.{div-mul-le_self}
use Rattle.std.proofs.lemmas.Nat.{le-div}
use Rattle.std.proofs.lemmas.Int.{ints, clamps}
use Rattle.xt_model.specs.declared.quad.Quad.{Quad}
use Rattle.xt_model.specs.Quads.{IsLive, IsWithin, join_of}
use Rattle.xt_meaning.specs.Overlap.{half_up}

pub within_refl : (q : Quad) → IsWithin q q
within_refl q = record { tlo = omega (arith, ints); thi = omega (arith, ints); slo = omega (arith, ints); shi = omega (arith, ints) }

pub within_trans : (p q r : Quad) → IsWithin p q → IsWithin q r → IsWithin p r
within_trans p q r a b = record { tlo = omega (arith, ints); thi = omega (arith, ints); slo = omega (arith, ints); shi = omega (arith, ints) }

pub least_antisym : (a b : ℤ) → a ≤ℤ b → b ≤ℤ a → a ≡ b
least_antisym a b h k = omega (arith, ints)

pub same_quad : (q r : Quad) → q.tlo ≡ r.tlo → q.thi ≡ r.thi → q.slo ≡ r.slo → q.shi ≡ r.shi → q ≡ r
same_quad q r a b c d =
    let e : ◌≡◌ {A = Quad} (record { tlo = q.tlo; thi = q.thi; slo = q.slo; shi = q.shi }) (record { tlo = r.tlo; thi = r.thi; slo = r.slo; shi = r.shi }) = rw (a, b, c, d) refl in
    e

-- two windows that lie within each other are the same
pub within_antisym : (q r : Quad) → IsWithin q r → IsWithin r q → q ≡ r
within_antisym q r a b = same_quad q r (least_antisym _ _ b.tlo a.tlo) (least_antisym _ _ a.thi b.thi) (least_antisym _ _ b.slo a.slo) (least_antisym _ _ a.shi b.shi)

pub join_mono : (p q r s : Quad) → IsWithin p r → IsWithin q s → IsWithin (join_of p q) (join_of r s)
join_mono p q r s a b = record { tlo = omega (arith, ints, clamps); thi = omega (arith, ints, clamps); slo = omega (arith, ints, clamps); shi = omega (arith, ints, clamps) }

pub join_left : (p q : Quad) → IsWithin p (join_of p q)
join_left p q = record { tlo = omega (arith, ints, clamps); thi = omega (arith, ints, clamps); slo = omega (arith, ints, clamps); shi = omega (arith, ints, clamps) }

pub join_most : (p q r : Quad) → IsWithin p r → IsWithin q r → IsWithin (join_of p q) r
join_most p q r a b = record { tlo = omega (arith, ints, clamps); thi = omega (arith, ints, clamps); slo = omega (arith, ints, clamps); shi = omega (arith, ints, clamps) }

-- ---- tests
pub both_true : (a b : Bool) → IsTrue (a && b) → IsTrue a × IsTrue b
both_true true b h = (refl, h)
both_true false b h = absurd (cc)

pub true_both : (a b : Bool) → IsTrue a → IsTrue b → IsTrue (a && b)
true_both true b h k = k
true_both false b h k = absurd (cc)

pub le_from_test : (a b : ℤ) → IsTrue (int_le a b) → a ≤ℤ b
le_from_test a b h = grind (arith, ints)

pub test_from_le : (a b : ℤ) → a ≤ℤ b → IsTrue (int_le a b)
test_from_le a b h = grind (arith, ints)

-- the bounds of a live window are in order
pub record IsOrdered (q : Quad) : Type 0 where
  pub times : q.tlo ≤ℤ q.thi
  pub slews : q.slo ≤ℤ q.shi

pub ordered_from_live : (q : Quad) → IsLive q → IsOrdered q
ordered_from_live q h =
    let p = both_true (int_le q.tlo q.thi) (int_le q.slo q.shi) h in
    record { times = le_from_test q.tlo q.thi p.0; slews = le_from_test q.slo q.shi p.1 }

pub live_from_ordered : (q : Quad) → IsOrdered q → IsLive q
live_from_ordered q h = true_both (int_le q.tlo q.thi) (int_le q.slo q.shi) (test_from_le q.tlo q.thi h.times) (test_from_le q.slo q.shi h.slews)

ordered_mono : (q r : Quad) → IsWithin q r → IsOrdered q → IsOrdered r
ordered_mono q r w o = record { times = omega (arith, ints); slews = omega (arith, ints) }

-- a window that contains a live one is live
pub live_mono : (q r : Quad) → IsWithin q r → IsLive q → IsLive r
live_mono q r w l = live_from_ordered r (ordered_mono q r w (ordered_from_live q l))

-- ---- floor division
div_mono : (m n d : ℕ) → 0 < d → m ≤ n → m / d ≤ n / d
div_mono m n d p h = le-div (m / d) n d p (omega (arith, div-mul-le_self m d))

pub div_euclid_mono : (x y : ℤ) (d : ℕ) → 0 < d → x ≤ℤ y → int_div_euclid x (pos d) ≤ℤ int_div_euclid y (pos d)
div_euclid_mono (pos a) (pos b) d p h = let k : a / d ≤ b / d = div_mono a b d p (omega (arith, ints)) in omega (arith, ints)
div_euclid_mono (pos a) (negsuc b) d p h = absurd (omega (arith, ints))
div_euclid_mono (negsuc a) (pos b) d p h = omega (arith, ints)
div_euclid_mono (negsuc a) (negsuc b) d p h = let k : b / d ≤ a / d = div_mono b a d p (omega (arith, ints)) in omega (arith, ints)

pub half_up_mono : (x y : ℤ) → x ≤ℤ y → half_up x ≤ℤ half_up y
half_up_mono x y h = div_euclid_mono (x +ℤ pos 1) (y +ℤ pos 1) 2 (omega arith) (omega (arith, ints))
