-- The answers decide when ranges meet and when windows overlap; what overlaps still does so in wider windows.
use Rattle.std.proofs.Common.{◌≡◌, ℕ, zero, suc, ◌*◌, ◌/◌, ◌<◌, ◌≤◌, Bool, true, false, ◌&&◌, refl, ℤ, pos, negsuc, neg_ℤ, ◌-ℤ◌, ◌*ℤ◌, ◌≤ℤ◌, arith}
use Rattle.std.specs.Prelude.{int_le, IsTrue, ◌↔◌, Option, Some, None}
use Rattle.std.specs.Int.{int_div_euclid}
use Rattle.std.proofs.lemmas.Int.{ints}
use Rattle.std.proofs.Math.Nat.{le-div_iff_mul-le, div-lt_iff_lt-mul}
use Rattle.xt_model.specs.declared.edge.Edge.{Edge}
use Rattle.xt_model.specs.declared.quad.Quad.{Quad}
use Rattle.xt_model.specs.Quads.{is_live, IsWithin}
use Rattle.xt_model.specs.Assign.{Assignment}
use Rattle.xt_meaning.specs.Overlap.{MeetMoved, Meet, IsRealPeriod, ranges_meet, overlaps, Overlap, active_from, active_to, overlap_answers}
use Rattle.xt_meaning.proofs.Order.{both_true, true_both, le_from_test, test_from_le, live_mono, half_up_mono}

-- a whole number is at most the floor of x over d where d times it is at most x
pub floor_from : (m x : ℤ) (d : ℕ) → 0 < d → (m *ℤ pos d) ≤ℤ x → m ≤ℤ int_div_euclid x (pos d)
floor_from (pos a) (pos b) d p h = let k : a ≤ b / d = (le-div_iff_mul-le p).1 (omega (arith, ints)) in omega (arith, ints)
floor_from (pos a) (negsuc b) d p h = absurd (omega (arith, ints))
floor_from (negsuc a) (pos b) d p h = omega (arith, ints)
floor_from (negsuc a) (negsuc b) d p h = let k : b / d < suc a = (div-lt_iff_lt-mul p).1 (omega (arith, ints)) in omega (arith, ints)

pub floor_to : (m x : ℤ) (d : ℕ) → 0 < d → m ≤ℤ int_div_euclid x (pos d) → (m *ℤ pos d) ≤ℤ x
floor_to (pos a) (pos b) d p h = let k : a * d ≤ b = (le-div_iff_mul-le p).0 (omega (arith, ints)) in omega (arith, ints)
floor_to (pos a) (negsuc b) d p h = absurd (omega (arith, ints))
floor_to (negsuc a) (pos b) d p h = omega (arith, ints)
floor_to (negsuc a) (negsuc b) d p h = let k : b < suc a * d = (div-lt_iff_lt-mul p).0 (omega (arith, ints)) in omega (arith, ints)

neg_mul : (k : ℤ) (d : ℕ) → (neg_ℤ k *ℤ pos d) ≡ neg_ℤ (k *ℤ pos d)
neg_mul (pos zero) d = omega (arith, ints)
neg_mul (pos (suc a)) d = omega (arith, ints)
neg_mul (negsuc a) d = omega (arith, ints)

moved_test : (d : ℕ) (a0 a1 b0 b1 k : ℤ) → 0 < d → MeetMoved a0 a1 b0 b1 (k *ℤ pos d) → IsTrue (ranges_meet (Some (pos d)) a0 a1 b0 b1)
moved_test d a0 a1 b0 b1 k p h =
    let n = neg_mul k d in
    let low : neg_ℤ k ≤ℤ int_div_euclid (b1 -ℤ a0) (pos d) = floor_from (neg_ℤ k) (b1 -ℤ a0) d p (let s = h.starts in omega (arith, ints, n, s)) in
    let high : k ≤ℤ int_div_euclid (a1 -ℤ b0) (pos d) = floor_from k (a1 -ℤ b0) d p (let s = h.ends in omega (arith, ints, s)) in
    test_from_le (neg_ℤ (int_div_euclid (b1 -ℤ a0) (pos d))) (int_div_euclid (a1 -ℤ b0) (pos d)) (omega (arith, ints, low, high))

test_moved : (d : ℕ) (a0 a1 b0 b1 : ℤ) → 0 < d → IsTrue (ranges_meet (Some (pos d)) a0 a1 b0 b1) → Meet (Some (pos d)) a0 a1 b0 b1
test_moved d a0 a1 b0 b1 p h =
    let k = int_div_euclid (a1 -ℤ b0) (pos d) in
    let t = le_from_test (neg_ℤ (int_div_euclid (b1 -ℤ a0) (pos d))) k h in
    let n = neg_mul k d in
    let low = floor_to (neg_ℤ k) (b1 -ℤ a0) d p (omega (arith, ints, t)) in
    let high = floor_to k (a1 -ℤ b0) d p (omega (arith, ints)) in
    (k, record { starts = omega (arith, ints, n, low); ends = omega (arith, ints, high) })

-- the test decides whether the ranges meet
pub meet_decides : (period : Option ℤ) (a0 a1 b0 b1 : ℤ) → IsRealPeriod period → IsTrue (ranges_meet period a0 a1 b0 b1) ↔ Meet period a0 a1 b0 b1
meet_decides None a0 a1 b0 b1 p = (
  λ h.
      let t = both_true (int_le a0 b1) (int_le b0 a1) h in
      let x = le_from_test a0 b1 t.0 in
      let y = le_from_test b0 a1 t.1 in
      record { starts = omega (arith, ints, x); ends = omega (arith, ints, y) },
  λ h. true_both (int_le a0 b1) (int_le b0 a1) (test_from_le a0 b1 (let s = h.starts in omega (arith, ints, s))) (test_from_le b0 a1 (let s = h.ends in omega (arith, ints, s))),
)
meet_decides (Some (pos d)) a0 a1 b0 b1 p = (
  λ h. test_moved d a0 a1 b0 b1 (omega (arith, ints, p)) h,
  λ h. moved_test d a0 a1 b0 b1 h.0 (omega (arith, ints, p)) h.1,
)
meet_decides (Some (negsuc d)) a0 a1 b0 b1 p = absurd (omega (arith, ints))

-- ranges that meet as they stand meet with any period
pub meet_unmoved : (period : Option ℤ) (a0 a1 b0 b1 : ℤ) → IsRealPeriod period → a0 ≤ℤ b1 → b0 ≤ℤ a1 → IsTrue (ranges_meet period a0 a1 b0 b1)
meet_unmoved None a0 a1 b0 b1 p h k = true_both (int_le a0 b1) (int_le b0 a1) (test_from_le a0 b1 h) (test_from_le b0 a1 k)
meet_unmoved (Some (pos d)) a0 a1 b0 b1 p h k = moved_test d a0 a1 b0 b1 (pos 0) (omega (arith, ints)) (record { starts = omega (arith, ints); ends = omega (arith, ints) })
meet_unmoved (Some (negsuc d)) a0 a1 b0 b1 p h k = absurd (omega (arith, ints))

moved_mono : (a0 a1 b0 b1 c0 c1 d0 d1 s : ℤ) → c0 ≤ℤ a0 → a1 ≤ℤ c1 → d0 ≤ℤ b0 → b1 ≤ℤ d1 → MeetMoved a0 a1 b0 b1 s → MeetMoved c0 c1 d0 d1 s
moved_mono a0 a1 b0 b1 c0 c1 d0 d1 s p q r t h = let x = h.starts in let y = h.ends in record { starts = omega (arith, ints, x); ends = omega (arith, ints, y) }

-- wider ranges meet where these do
pub meet_mono : (period : Option ℤ) (a0 a1 b0 b1 c0 c1 d0 d1 : ℤ) → IsRealPeriod period → c0 ≤ℤ a0 → a1 ≤ℤ c1 → d0 ≤ℤ b0 → b1 ≤ℤ d1
    → IsTrue (ranges_meet period a0 a1 b0 b1) → IsTrue (ranges_meet period c0 c1 d0 d1)
meet_mono None a0 a1 b0 b1 c0 c1 d0 d1 g p q r t h = (meet_decides None c0 c1 d0 d1 g).1 (moved_mono a0 a1 b0 b1 c0 c1 d0 d1 (pos 0) p q r t ((meet_decides None a0 a1 b0 b1 g).0 h))
meet_mono (Some w) a0 a1 b0 b1 c0 c1 d0 d1 g p q r t h =
    let m = (meet_decides (Some w) a0 a1 b0 b1 g).0 h in
    (meet_decides (Some w) c0 c1 d0 d1 g).1 (m.0, moved_mono a0 a1 b0 b1 c0 c1 d0 d1 (m.0 *ℤ w) p q r t m.1)

-- and it is one which of two ranges is moved
pub meet_symmetric : (period : Option ℤ) (a0 a1 b0 b1 : ℤ) → IsTrue (ranges_meet period a0 a1 b0 b1) → IsTrue (ranges_meet period b0 b1 a0 a1)
meet_symmetric None a0 a1 b0 b1 h = let t = both_true (int_le a0 b1) (int_le b0 a1) h in true_both (int_le b0 a1) (int_le a0 b1) t.1 t.0
meet_symmetric (Some w) a0 a1 b0 b1 h =
    let t = le_from_test (neg_ℤ (int_div_euclid (b1 -ℤ a0) w)) (int_div_euclid (a1 -ℤ b0) w) h in
    test_from_le (neg_ℤ (int_div_euclid (a1 -ℤ b0) w)) (int_div_euclid (b1 -ℤ a0) w) (omega (arith, ints, t))

-- ---- windows
abbrev active_meet : Option ℤ → Quad → Quad → Bool
active_meet period q r = ranges_meet period (active_from q) (active_to q) (active_from r) (active_to r)

-- what the answer of two windows says
three_true : (period : Option ℤ) (q r : Quad) → IsTrue (overlaps period q r) → IsTrue (is_live q) × IsTrue (is_live r) × IsTrue (active_meet period q r)
three_true period q r h =
    let first = both_true (is_live q) (is_live r && active_meet period q r) h in
    let more = both_true (is_live r) (active_meet period q r) first.1 in
    (first.0, more.0, more.1)

true_three : (period : Option ℤ) (q r : Quad) → IsTrue (is_live q) → IsTrue (is_live r) → IsTrue (active_meet period q r) → IsTrue (overlaps period q r)
true_three period q r a b c = true_both (is_live q) (is_live r && active_meet period q r) a (true_both (is_live r) (active_meet period q r) b c)

-- the answer decides whether two windows overlap
pub overlaps_decides : (period : Option ℤ) (q r : Quad) → IsRealPeriod period → IsTrue (overlaps period q r) ↔ Overlap period q r
overlaps_decides period q r p = (
  λ h.
      let t = three_true period q r h in
      record { first = t.0; second = t.1; meet = (meet_decides period (active_from q) (active_to q) (active_from r) (active_to r) p).0 t.2 },
  λ h.
      true_three period q r h.first h.second ((meet_decides period (active_from q) (active_to q) (active_from r) (active_to r) p).1 h.meet),
)

active_from_mono : (q r : Quad) → IsWithin q r → active_from r ≤ℤ active_from q
active_from_mono q r w = let h = half_up_mono q.shi r.shi w.shi in omega (arith, ints)

active_to_mono : (q r : Quad) → IsWithin q r → active_to q ≤ℤ active_to r
active_to_mono q r w = let h = half_up_mono q.shi r.shi w.shi in omega (arith, ints)

-- windows that contain overlapping ones overlap
pub overlaps_mono : (period : Option ℤ) (q r s t : Quad) → IsRealPeriod period → IsWithin q s → IsWithin r t → IsTrue (overlaps period q r) → IsTrue (overlaps period s t)
overlaps_mono period q r s t p a b h =
    let x = three_true period q r h in
    true_three period s t (live_mono q s a x.0) (live_mono r t b x.1)
    (meet_mono period (active_from q) (active_to q) (active_from r) (active_to r) (active_from s) (active_to s) (active_from t) (active_to t) p
    (active_from_mono q s a) (active_to_mono q s a) (active_from_mono r t b) (active_to_mono r t b) x.2)

-- it is one which of two windows is the victim's
overlaps_turned : (period : Option ℤ) (q r : Quad) → IsTrue (overlaps period q r) → IsTrue (overlaps period r q)
overlaps_turned period q r h =
    let x = three_true period q r h in
    true_three period r q x.1 x.0 (meet_symmetric period (active_from q) (active_to q) (active_from r) (active_to r) x.2)

same_answer : (a b : Bool) → (IsTrue a → IsTrue b) → (IsTrue b → IsTrue a) → a ≡ b
same_answer true true h k = refl
same_answer true false h k = absurd (let e = h refl in cc)
same_answer false true h k = absurd (let e = k refl in cc)
same_answer false false h k = refl

pub answers_symmetric : (period : Option ℤ) (W : Assignment) (n m : ℕ) (e f : Edge) → overlap_answers period W n e m f ≡ overlap_answers period W m f n e
answers_symmetric period W n m e f =
    same_answer (overlaps period (W n e) (W m f)) (overlaps period (W m f) (W n e)) (overlaps_turned period (W n e) (W m f)) (overlaps_turned period (W m f) (W n e))
