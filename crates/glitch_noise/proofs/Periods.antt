-- Whole numbers of periods, and what is left of a moment beside them.
use Rattle.std.proofs.Common.{◌≡◌, ℕ, zero, suc, ◌/◌, ◌<◌, inl, inr, refl, sym, ap, ◌∙◌, Bool, true, false, ℤ, pos, negsuc, neg_ℤ, ◌+ℤ◌, ◌-ℤ◌, ◌*ℤ◌, ◌≤ℤ◌, arith}
use Rattle.std.specs.Prelude.{Option, Some, IsTrue, if◌then◌else◌}
use Rattle.std.specs.Int.{int_div_euclid, int_rem_euclid}
use Rattle.std.proofs.Math.IntN.{ℤ_ind}
use Rattle.std.proofs.lemmas.Int.{ints}
use Rattle.xt_meaning.specs.Overlap.{Meet, ranges_meet, IsRealPeriod}
use Rattle.xt_meaning.proofs.Meeting.{floor_from, floor_to, meet_decides}
use Rattle.glitch_noise.proofs.Tests.{apart, true_or_false}

-- one period more
pub times_suc : (a : ℤ) (d : ℕ) → ((a +ℤ pos 1) *ℤ pos d) ≡ (a *ℤ pos d) +ℤ pos d
times_suc (pos a) d = omega (arith, ints)
times_suc (negsuc zero) d = omega (arith, ints)
times_suc (negsuc (suc a)) d =
    let s : negsuc (suc a) +ℤ pos 1 ≡ negsuc a = omega (arith, ints) in
    let f : (negsuc (suc a) +ℤ pos 1) *ℤ pos d ≡ negsuc a *ℤ pos d = ap (λ z. z *ℤ pos d) s in
    let g : negsuc a *ℤ pos d ≡ (negsuc (suc a) *ℤ pos d) +ℤ pos d = omega (arith, ints) in
    f ∙ g

times_pred : (a : ℤ) (d : ℕ) → ((a -ℤ pos 1) *ℤ pos d) ≡ (a *ℤ pos d) -ℤ pos d
times_pred a d =
    let e = times_suc (a -ℤ pos 1) d in
    let s : (a -ℤ pos 1) +ℤ pos 1 ≡ a = omega (arith, ints) in
    let f : a *ℤ pos d ≡ ((a -ℤ pos 1) *ℤ pos d) +ℤ pos d = ap (λ z. z *ℤ pos d) (sym s) ∙ e in
    omega (arith, ints, f)

-- several periods more
pub times_sum : (a b : ℤ) (d : ℕ) → ((a +ℤ b) *ℤ pos d) ≡ (a *ℤ pos d) +ℤ (b *ℤ pos d)
times_sum a b d = ℤ_ind (λ b. ((a +ℤ b) *ℤ pos d) ≡ (a *ℤ pos d) +ℤ (b *ℤ pos d))
    (let s : a +ℤ pos 0 ≡ a = omega (arith, ints) in let f : (a +ℤ pos 0) *ℤ pos d ≡ a *ℤ pos d = ap (λ z. z *ℤ pos d) s in omega (arith, ints, f))
    (λ n h. more (pos n) h)
    (λ n h. less (neg_ℤ (pos n)) h)
    b
  where
    more : (x : ℤ) → ((a +ℤ x) *ℤ pos d) ≡ (a *ℤ pos d) +ℤ (x *ℤ pos d) → ((a +ℤ (x +ℤ pos 1)) *ℤ pos d) ≡ (a *ℤ pos d) +ℤ ((x +ℤ pos 1) *ℤ pos d)
    more x h =
        let s : a +ℤ (x +ℤ pos 1) ≡ (a +ℤ x) +ℤ pos 1 = omega (arith, ints) in
        let f : (a +ℤ (x +ℤ pos 1)) *ℤ pos d ≡ ((a +ℤ x) *ℤ pos d) +ℤ pos d = ap (λ z. z *ℤ pos d) s ∙ times_suc (a +ℤ x) d in
        let g = times_suc x d in
        omega (arith, ints, f, g, h)

    less : (x : ℤ) → ((a +ℤ x) *ℤ pos d) ≡ (a *ℤ pos d) +ℤ (x *ℤ pos d) → ((a +ℤ (x +ℤ neg_ℤ (pos 1))) *ℤ pos d) ≡ (a *ℤ pos d) +ℤ ((x +ℤ neg_ℤ (pos 1)) *ℤ pos d)
    less x h =
        let s : a +ℤ (x +ℤ neg_ℤ (pos 1)) ≡ (a +ℤ x) -ℤ pos 1 = omega (arith, ints) in
        let f : (a +ℤ (x +ℤ neg_ℤ (pos 1))) *ℤ pos d ≡ ((a +ℤ x) *ℤ pos d) -ℤ pos d = ap (λ z. z *ℤ pos d) s ∙ times_pred (a +ℤ x) d in
        let t : x +ℤ neg_ℤ (pos 1) ≡ x -ℤ pos 1 = omega (arith, ints) in
        let g : (x +ℤ neg_ℤ (pos 1)) *ℤ pos d ≡ (x *ℤ pos d) -ℤ pos d = ap (λ z. z *ℤ pos d) t ∙ times_pred x d in
        omega (arith, ints, f, g, h)

times_natural : (n d : ℕ) → pos 0 ≤ℤ (pos n *ℤ pos d)
times_natural n d = omega (arith, ints)

-- fewer periods are less by one at least
pub times_less : (a b : ℤ) (d : ℕ) → (a +ℤ pos 1) ≤ℤ b → ((a *ℤ pos d) +ℤ pos d) ≤ℤ (b *ℤ pos d)
times_less a b d h = gap (b -ℤ (a +ℤ pos 1)) refl
  where
    gap : (x : ℤ) → b -ℤ (a +ℤ pos 1) ≡ x → ((a *ℤ pos d) +ℤ pos d) ≤ℤ (b *ℤ pos d)
    gap (pos n) e =
        let s : b ≡ (a +ℤ pos 1) +ℤ pos n = omega (arith, ints, e) in
        let f : b *ℤ pos d ≡ ((a +ℤ pos 1) *ℤ pos d) +ℤ (pos n *ℤ pos d) = ap (λ z. z *ℤ pos d) s ∙ times_sum (a +ℤ pos 1) (pos n) d in
        let g = times_suc a d in
        let p = times_natural n d in
        omega (arith, ints, f, g, p)
    gap (negsuc n) e = absurd (omega (arith, ints, e, h))

-- a moment as a number of periods and the moment of the first one from 0 on that is left
pub record IsSplit (d : ℕ) (x q r : ℤ) : Type 0 where
  pub is : x ≡ (q *ℤ pos d) +ℤ r
  pub low : pos 0 ≤ℤ r
  pub high : (r +ℤ pos 1) ≤ℤ pos d

pub split_of : (x : ℤ) (d : ℕ) → 0 < d → (q : ℤ) × IsSplit d x q (int_rem_euclid x (pos d))
split_of (pos a) d p = (pos (a / d), record { is = omega (arith, ints); low = omega (arith, ints); high = omega (arith, ints) })
split_of (negsuc a) d p = (negsuc (a / d), record { is = omega (arith, ints); low = omega (arith, ints); high = omega (arith, ints) })

-- ---- which ranges hold a moment
-- what a sum is, by whether ranges meet
pub by_meeting : (period : Option ℤ) (from to m s cap : ℤ) → IsRealPeriod period → (Meet period from to m m → s ≡ cap) → ((Meet period from to m m → ⊥) → s ≡ pos 0)
    → s ≡ (if ranges_meet period from to m m then cap else pos 0)
by_meeting period from to m s cap real inside outside =
    let d = meet_decides period from to m m real in
    elim (true_or_false (ranges_meet period from to m m)) [
      | inl e ↦ rw e (inside (d.0 e))
      | inr e ↦ rw e (outside (λ h. let t = d.1 h in cc))
    ]

-- a range of a period's length or more holds every moment
pub whole_period : (d : ℕ) (from to m : ℤ) → 0 < d → pos d ≤ℤ ((to +ℤ pos 1) -ℤ from) → Meet (Some (pos d)) from to m m
whole_period d from to m p long =
    let k = int_div_euclid (to -ℤ m) (pos d) in
    let low : (k *ℤ pos d) ≤ℤ (to -ℤ m) = floor_to k (to -ℤ m) d p (omega (arith, ints)) in
    let next = times_suc k d in
    let high : ((to -ℤ m) +ℤ pos 1) ≤ℤ ((k *ℤ pos d) +ℤ pos d) = elim (apart (to -ℤ m) ((k *ℤ pos d) +ℤ pos d)) [
      | inl h ↦ h
      | inr h ↦ absurd (
          let le : ((k +ℤ pos 1) *ℤ pos d) ≤ℤ (to -ℤ m) = elim h [ inl e ↦ omega (arith, ints, e, next) | inr g ↦ omega (arith, ints, g, next) ] in
          let more = floor_from (k +ℤ pos 1) (to -ℤ m) d p le in
          omega (arith, ints, more))
    ] in
    (k, record { starts = omega (arith, ints, high, long); ends = omega (arith, ints, low) })

-- a moment and the same one some periods later meet the same ranges
pub meet_moved : (d : ℕ) (from to m q r : ℤ) → IsSplit d m q r → Meet (Some (pos d)) from to m m → Meet (Some (pos d)) from to r r
meet_moved d from to m q r s h =
    let e = times_sum h.0 q d in
    let a = h.1.starts in
    let b = h.1.ends in
    let is = s.is in
    (h.0 +ℤ q, record { starts = omega (arith, ints, a, e, is); ends = omega (arith, ints, b, e, is) })

pub meet_back : (d : ℕ) (from to m q r : ℤ) → IsSplit d m q r → Meet (Some (pos d)) from to r r → Meet (Some (pos d)) from to m m
meet_back d from to m q r s h =
    let e = times_sum (h.0 -ℤ q) q d in
    let t : (h.0 -ℤ q) +ℤ q ≡ h.0 = omega (arith, ints) in
    let f : h.0 *ℤ pos d ≡ ((h.0 -ℤ q) *ℤ pos d) +ℤ (q *ℤ pos d) = ap (λ z. z *ℤ pos d) (sym t) ∙ e in
    let a = h.1.starts in
    let b = h.1.ends in
    let is = s.is in
    (h.0 -ℤ q, record { starts = omega (arith, ints, a, f, is); ends = omega (arith, ints, b, f, is) })

same_test : (a b : Bool) → (IsTrue a → IsTrue b) → (IsTrue b → IsTrue a) → a ≡ b
same_test true true h k = refl
same_test true false h k = absurd (let e = h refl in cc)
same_test false true h k = absurd (let e = k refl in cc)
same_test false false h k = refl

pub same_meeting : (d : ℕ) (from to m q r : ℤ) → 0 < d → IsSplit d m q r → ranges_meet (Some (pos d)) from to m m ≡ ranges_meet (Some (pos d)) from to r r
same_meeting d from to m q r p s =
    let real : IsRealPeriod (Some (pos d)) = omega (arith, ints) in
    let a = meet_decides (Some (pos d)) from to m m real in
    let b = meet_decides (Some (pos d)) from to r r real in
    same_test (ranges_meet (Some (pos d)) from to m m) (ranges_meet (Some (pos d)) from to r r)
    (λ t. b.1 (meet_moved d from to m q r s (a.0 t))) (λ t. a.1 (meet_back d from to m q r s (b.0 t)))
