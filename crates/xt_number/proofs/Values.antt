-- Sizes of digits, powers of ten, and why an exponent may be cut at some bound.
use Rattle.std.proofs.Common.{◌≡◌, ℕ, zero, suc, ◌+◌, ◌-◌, ◌*◌, ◌/◌, ◌^◌, ◌<◌, ◌≤◌, Bool, true, false, List, [], ◌∷◌, ◌++◌, length, drop, get_or, refl, sym, ◌∙◌, arith, inl, inr, drop-cons, add-one}
use Rattle.std.specs.Prelude.{◌==◌, ℤ, pos, negsuc, neg_ℤ, ◌+ℤ◌, ◌-ℤ◌, ◌≤ℤ◌, ◌<ℤ◌, unsigned_abs, min}
use Rattle.std.specs.Char.{digit_value}
use Rattle.std.specs.Str.Parse.{AllDigits, digits_value, digits_value_after}
use Rattle.std.proofs.Math.Nat.{pow-suc, pow-le-pow_right, mul-le-mul_left, mul-le-mul_right, one-le-pow}
use Rattle.std.proofs.lemmas.Bool.{cond_both, eqb-true, eqb-false, cases_lt}
use Rattle.std.proofs.lemmas.Int.{ints, clamps}
use Rattle.std.proofs.lemmas.Nat.{div_below}
use Rattle.std.proofs.lemmas.Int.Digits.{digits_value-lt}
use Rattle.std.proofs.lemmas.Str.{digit_value_digit}
use Rattle.std.proofs.lemmas.Str.Parse.{digit_from_value}
use Rattle.xt_number.specs.Value.{without_zeros, signed, rounded, clamped}

-- ---- digits

-- digits behind others weigh those by ten for each
pub value_after : (n : ℕ) (ds : List ℕ) → digits_value_after 10 n ds ≡ n * 10 ^ length ds + digits_value 10 ds
value_after n [] = omega arith
value_after n (d ∷ ds) =
    let more : 10 ^ suc (length ds) ≡ 10 ^ length ds * 10 = pow-suc 10 (length ds) in
    rw (value_after (n * 10 + digit_value d) ds, value_after (0 * 10 + digit_value d) ds, more) (omega arith)

pub after_append : (n : ℕ) (xs ys : List ℕ) → digits_value_after 10 n (xs ++ ys) ≡ digits_value_after 10 (digits_value_after 10 n xs) ys
after_append n [] ys = refl
after_append n (x ∷ xs) ys = after_append (n * 10 + digit_value x) xs ys

pub after_ge : (n : ℕ) (ds : List ℕ) → n ≤ digits_value_after 10 n ds
after_ge n [] = omega arith
after_ge n (d ∷ ds) = omega (arith, after_ge (n * 10 + digit_value d) ds)

-- digits that alone reach a bound reach it with more behind them
pub front_large : (b : ℕ) (xs ys : List ℕ) → b ≤ digits_value 10 xs → b ≤ digits_value 10 (xs ++ ys)
front_large b xs ys h = rw (after_append 0 xs ys) (omega (arith, h, after_ge (digits_value 10 xs) ys))

-- a digit's own value
pub digit_off : (d : ℕ) → digit_value d < 10 → digit_value d + 48 ≡ d
digit_off d h = digit_value_digit d (digit_from_value d h)

pub digits_at_index : (ds : List ℕ) (i : ℕ) → AllDigits 10 ds → i < length ds → digit_value (get_or ds i 0) < 10
digits_at_index [] i h lt = absurd (omega arith)
digits_at_index (d ∷ ds) zero h lt = h.0
digits_at_index (d ∷ ds) (suc i) h lt = digits_at_index ds i h.1 (omega arith)

-- ---- leading zeros

pub zeros_worth_nothing : (ds : List ℕ) → digits_value 10 (without_zeros ds) ≡ digits_value 10 ds
zeros_worth_nothing [] = refl
zeros_worth_nothing (d ∷ ds) =
    cond_both (d == 48) (without_zeros ds) (d ∷ ds) (λ (t : List ℕ). digits_value 10 t ≡ digits_value 10 (d ∷ ds))
    (λ e. rw (eqb-true d 48 e) (zeros_worth_nothing ds))
    (λ e. refl)

pub zeros_keep_digits : (ds : List ℕ) → AllDigits 10 ds → AllDigits 10 (without_zeros ds)
zeros_keep_digits [] h = tt
zeros_keep_digits (d ∷ ds) h =
    cond_both (d == 48) (without_zeros ds) (d ∷ ds) (λ (t : List ℕ). AllDigits 10 t) (λ e. zeros_keep_digits ds h.1) (λ e. h)

-- a first digit that is not zero
abbrev pub BeginsAboveZero : List ℕ → Type 0
BeginsAboveZero [] = Unit {0}
BeginsAboveZero (d ∷ ds) = 0 < digit_value d

pub first_above_zero : (ds : List ℕ) → AllDigits 10 ds → BeginsAboveZero (without_zeros ds)
first_above_zero [] h = tt
first_above_zero (d ∷ ds) h =
    cond_both (d == 48) (without_zeros ds) (d ∷ ds) BeginsAboveZero
    (λ e. first_above_zero ds h.1)
    (λ e. let ne = eqb-false d 48 e in let off = digit_off d h.0 in omega (arith, ne, off))

long_is_large : (k : ℕ) (ds : List ℕ) → BeginsAboveZero ds → k < length ds → 10 ^ k ≤ digits_value 10 ds
long_is_large k [] first lt = absurd (omega arith)
long_is_large k (d ∷ ds) first lt =
    let whole = value_after (0 * 10 + digit_value d) ds in
    let pow : 10 ^ k ≤ 10 ^ length ds = pow-le-pow_right (omega arith) (omega arith) in
    let weigh : 1 * 10 ^ length ds ≤ (0 * 10 + digit_value d) * 10 ^ length ds = mul-le-mul_right (10 ^ length ds) (omega arith) in
    omega (arith, whole, pow, weigh)

short_is_small : (k : ℕ) (ds : List ℕ) → AllDigits 10 ds → length ds ≤ k → digits_value 10 ds < 10 ^ k
short_is_small k ds h le =
    let below = digits_value-lt 10 ds h in
    let pow : 10 ^ length ds ≤ 10 ^ k = pow-le-pow_right (omega arith) le in
    omega (arith, below, pow)

-- more digits than k from the first that is not zero on: just where the value is 10 ^ k or more
pub large_from_long : (k : ℕ) (ds : List ℕ) → AllDigits 10 ds → k < length (without_zeros ds) → 10 ^ k ≤ digits_value 10 ds
large_from_long k ds h lt = rw (← zeros_worth_nothing ds) (long_is_large k (without_zeros ds) (first_above_zero ds h) lt)

pub small_from_short : (k : ℕ) (ds : List ℕ) → AllDigits 10 ds → length (without_zeros ds) ≤ k → digits_value 10 ds < 10 ^ k
small_from_short k ds h le = rw (← zeros_worth_nothing ds) (short_is_small k (without_zeros ds) (zeros_keep_digits ds h) le)

-- ---- rounding

pub rounded_up : (m k : ℕ) (z : ℤ) → pos 0 ≤ℤ z → k ≡ unsigned_abs z → m * 10 ^ k ≡ rounded m z
unfolding rounded
rounded_up m k (pos n) h e = rw e refl
rounded_up m k (negsuc n) h e = absurd (omega (arith, ints))

pub rounded_down : (m k : ℕ) (z : ℤ) → z <ℤ pos 0 → k ≡ unsigned_abs z → (2 * m + 10 ^ k) / (2 * 10 ^ k) ≡ rounded m z
unfolding rounded
rounded_down m k (pos n) h e = absurd (omega (arith, ints))
rounded_down m k (negsuc n) h e = rw (e, add-one) refl

pub ten_within : (k l : ℕ) → k ≤ l → (1 ≤ 10 ^ k) × (10 ^ k ≤ 10 ^ l)
ten_within k l h = (one-le-pow k 10 (omega arith), pow-le-pow_right (omega arith) h)

-- a number above zero is beyond the range with thirteen zeros more
pub far_up : (m k : ℕ) → 0 < m → 13 ≤ k → 2 ^ 40 < m * 10 ^ k
far_up m k some high =
    let pow : 10 ^ 13 ≤ 10 ^ k = pow-le-pow_right (omega arith) high in
    let whole : 1 * 10 ^ k ≤ m * 10 ^ k = mul-le-mul_right (10 ^ k) some in
    omega (arith, pow, whole)

pub large_stays : (m k : ℕ) → 2 ^ 40 < m → 2 ^ 40 < m * 10 ^ k
large_stays m k large =
    let whole : m * 1 ≤ m * 10 ^ k = mul-le-mul_left m (ten_within k k (omega arith)).0 in
    omega (arith, whole)

-- thirty digits round to nothing from thirty-one places on
pub far_down : (m k : ℕ) → m < 10 ^ 30 → 31 ≤ k → (2 * m + 10 ^ k) / (2 * 10 ^ k) ≡ 0
far_down m k small high =
    let pow : 10 ^ 31 ≤ 10 ^ k = pow-le-pow_right (omega arith) high in
    let below : (2 * m + 10 ^ k) / (2 * 10 ^ k) < 1 = div_below (2 * m + 10 ^ k) (2 * 10 ^ k) 1 (omega (arith, pow)) (omega (arith, pow)) in
    omega (arith, below)

-- two sizes are the same, or both beyond the range
pub data SameInRange (a b : ℕ) : Type 0 where
  same : a ≡ b → SameInRange a b
  beyond : 2 ^ 40 < a → 2 ^ 40 < b → SameInRange a b

up_near : (k : ℕ) → k ≤ 64 → clamped (pos k) ≡ pos k
up_near k h = omega (arith, ints, clamps)

up_far : (k : ℕ) → 64 < k → clamped (pos k) ≡ pos 64
up_far k h = omega (arith, ints, clamps)

down_near : (k : ℕ) → k < 64 → clamped (negsuc k) ≡ negsuc k
down_near k h = omega (arith, ints, clamps)

down_far : (k : ℕ) → 64 ≤ k → clamped (negsuc k) ≡ negsuc 63
down_far k h = omega (arith, ints, clamps)

-- A power of ten may be cut at 64 on both sides.
pub clamp_harmless : (m : ℕ) (z : ℤ) → m < 10 ^ 30 → SameInRange (rounded m (clamped z)) (rounded m z)
unfolding rounded
clamp_harmless m (pos k) small =
    elim (cases_lt 64 k) [
      | inl far ↦ elim (cases_lt 0 m) [
        | inl some ↦ beyond (rw up_far (far_up m 64 some (omega arith))) (far_up m k some (omega arith))
        | inr none ↦ let zero-is : m ≡ 0 = omega arith in same (rw (up_far k far, zero-is) (omega arith))
      ]
      | inr near ↦ same (rw (up_near k near) refl)
    ]
clamp_harmless m (negsuc k) small =
    elim (cases_lt k 64) [
      | inl near ↦ same (rw (down_near k near) refl)
      | inr far ↦ same (rw (down_far k far, far_down m (k + 1) small (omega arith)) (far_down m 64 small (omega arith)))
    ]

-- ---- exponents

-- An exponent may be cut at 2 ^ 80, where what is added to it is smaller.
pub cut_harmless : (negative : Bool) (n c places : ℕ) (by : ℤ) → c ≡ min n (2 ^ 80) → places < 2 ^ 65 → neg_ℤ (pos (2 ^ 65)) ≤ℤ by → by ≤ℤ pos (2 ^ 65)
    → clamped ((signed negative c -ℤ pos places) +ℤ by) ≡ clamped ((signed negative n -ℤ pos places) +ℤ by)
cut_harmless true n c places by cut few low high = elim (cases_lt n (2 ^ 80)) [
  | inl near ↦ let e : c ≡ n = omega (arith, cut) in rw e refl
  | inr far ↦
      let left : clamped ((neg_ℤ (pos c) -ℤ pos places) +ℤ by) ≡ negsuc 63 = omega (arith, ints, clamps) in
      let right : clamped ((neg_ℤ (pos n) -ℤ pos places) +ℤ by) ≡ negsuc 63 = omega (arith, ints, clamps) in
      left ∙ sym right
]
cut_harmless false n c places by cut few low high = elim (cases_lt n (2 ^ 80)) [
  | inl near ↦ let e : c ≡ n = omega (arith, cut) in rw e refl
  | inr far ↦
      let left : clamped ((pos c -ℤ pos places) +ℤ by) ≡ pos 64 = omega (arith, ints, clamps) in
      let right : clamped ((pos n -ℤ pos places) +ℤ by) ≡ pos 64 = omega (arith, ints, clamps) in
      left ∙ sym right
]

-- ---- a loop over digits

pub value_turn : (v w total : ℕ) (ds : List ℕ) (i : ℕ) → AllDigits 10 ds → i < length ds → w ≡ v * 10 + (get_or ds i 0 - 48)
    → digits_value_after 10 v (drop i ds) ≡ total → digits_value_after 10 w (drop (i + 1) ds) ≡ total
value_turn v w total ds i digits lt e so_far =
    let parts : drop i ds ≡ get_or ds i 0 ∷ drop (suc i) ds = drop-cons ds i 0 lt in
    let step : digits_value_after 10 (v * 10 + digit_value (get_or ds i 0)) (drop (suc i) ds) ≡ total = rw parts at so_far in
    let off : digit_value (get_or ds i 0) + 48 ≡ get_or ds i 0 = digit_off _ (digits_at_index ds i digits lt) in
    let w-is : w ≡ v * 10 + digit_value (get_or ds i 0) = omega (arith, e, off) in
    rw (w-is, add-one) step
