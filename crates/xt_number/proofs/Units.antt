-- The power of ten that a number is.
use Rattle.std.proofs.Common.{◌≡◌, ◌≢◌, ℕ, zero, suc, ◌*◌, ◌^◌, ◌≤◌, Bool, true, false, not, List, [], ◌∷◌, Option, Some, None, refl, sym, ap, ◌∙◌, arith, inl, inr}
use Rattle.std.specs.Prelude.{◌==◌, ◌⊎◌, ◌↔◌, ℤ, pos, negsuc, neg_ℤ, ◌+ℤ◌, ◌-ℤ◌, ◌≤ℤ◌, find}
use Rattle.std.proofs.Math.Nat.{pow-suc, mul-le-mul_right}
use Rattle.std.proofs.lemmas.Bool.{cond_both, eqb-true, eq-eqb, cases_lt, and_parts, and_from, not-true, not_from_false, both_ways}
use Rattle.std.proofs.lemmas.Int.{ints, clamps}
use Rattle.std.proofs.lemmas.Option.{same_Some, none-some}
use Rattle.xt_number.specs.Numeral.{Numeral, IsNumberWith}
use Rattle.xt_number.specs.Reading.{numeral_of}
use Rattle.xt_number.specs.Value.{mantissa, exponent, ten_to, clamped, IsTenTo, is_ten_to, unit_powers, power_from}
use Rattle.xt_number.proofs.Grammar.{numeral_takes}
use Rattle.xt_number.proofs.Values.{ten_within}
use Rattle.xt_number.proofs.Fixing.{at_number, no_number}
use Rattle.xt_number.proofs.Powers.{ten_apart}

-- ---- powers on both sides of an equation

ten_to_at : (m : ℕ) (d e : ℤ) → e ≡ neg_ℤ d → m * ten_to d ≡ ten_to e → (j : ℕ) × (m ≡ 10 ^ j) × (e ≡ pos j)
ten_to_at m (pos zero) e is worth =
    let unit : m * 10 ^ 0 ≡ 10 ^ 0 = rw is at worth in
    (0, omega (arith, unit), is)
ten_to_at m (pos (suc n)) e is worth =
    let unit : m * 10 ^ suc n ≡ 1 = rw is at worth in
    let ten : 10 ^ suc n ≡ 10 ^ n * 10 = pow-suc 10 n in
    elim (cases_lt 0 m) [
      | inl some ↦ let weigh : 1 * 10 ^ suc n ≤ m * 10 ^ suc n = mul-le-mul_right (10 ^ suc n) some in absurd (omega (arith, weigh, ten, unit, (ten_within n n (omega arith)).0))
      | inr none ↦ let nothing : m ≡ 0 = omega arith in let empty : m * 10 ^ suc n ≡ 0 = rw nothing (omega arith) in absurd (omega (arith, empty, unit))
    ]
ten_to_at m (negsuc n) e is worth =
    let power : m * 1 ≡ 10 ^ suc n = rw is at worth in
    (suc n, omega (arith, power), is)

tens_from : (k : ℤ) (n : Numeral) → IsTenTo k n → (j : ℕ) × (mantissa n ≡ 10 ^ j) × (k ≡ exponent n +ℤ pos j)
tens_from k n t =
    let found = ten_to_at (mantissa n) (exponent n -ℤ k) (k -ℤ exponent n) (omega (arith, ints)) t.worth in
    (found.0, found.1, omega (arith, ints, found.2))

ten_to_again : (j : ℕ) → 10 ^ j * ten_to (neg_ℤ (pos j)) ≡ 10 ^ j
ten_to_again zero = refl
ten_to_again (suc j) = omega arith

tens_again : (m j : ℕ) (e k : ℤ) → m ≡ 10 ^ j → k ≡ e +ℤ pos j → m * ten_to (e -ℤ k) ≡ ten_to (k -ℤ e)
tens_again m j e k m-is k-is =
    let down : (e -ℤ k) ≡ neg_ℤ (pos j) = omega (arith, ints) in
    let up : (k -ℤ e) ≡ pos j = omega (arith, ints) in
    rw (m-is, down, up) (ten_to_again j)

ten_one : (i j : ℕ) → 10 ^ i ≡ 10 ^ j → i ≡ j
ten_one i j e = elim (cases_lt i j) [
  | inl lt ↦ absurd (omega (arith, ten_apart i j lt, e, ten_within i i (omega arith)))
  | inr ge ↦ elim (cases_lt j i) [
    | inl lt ↦ absurd (omega (arith, ten_apart j i lt, e, ten_within j j (omega arith)))
    | inr le ↦ omega arith
  ]
]

power_one : (k l : ℤ) (n : Numeral) → IsTenTo k n → IsTenTo l n → k ≡ l
power_one k l n s t =
    let a = tens_from k n s in
    let b = tens_from l n t in
    let e : a.0 ≡ b.0 = ten_one a.0 b.0 (sym a.1 ∙ b.1) in
    a.2 ∙ ap (λ (j : ℕ). exponent n +ℤ pos j) e ∙ sym b.2

-- ---- the test

test_decides : (k : ℤ) (n : Numeral) → is_ten_to n k ≡ true → IsTenTo k n
test_decides k n e =
    let parts = and_parts (not n.negative) (mantissa n * ten_to (exponent n -ℤ k) == ten_to (k -ℤ exponent n)) e in
    record { positive = not-true n.negative parts.0; worth = eqb-true _ _ parts.1 }

test_passes : (k : ℤ) (n : Numeral) → IsTenTo k n → is_ten_to n k ≡ true
test_passes k n t = and_from _ _ (not_from_false n.negative t.positive) (eq-eqb _ _ t.worth)

-- ---- a search through some powers

abbrev Among : ℤ → List ℤ → Type 0
Among k [] = ⊥
Among k (x ∷ xs) = (k ≡ x) ⊎ Among k xs

find_found : (test : ℤ → Bool) (xs : List ℤ) (k : ℤ) → find test xs ≡ Some k → (test k ≡ true) × Among k xs
find_found test [] k e = absurd (none-some k e)
find_found test (x ∷ xs) k e =
    cond_both (test x) (Some x) (find test xs) (λ (o : Option ℤ). o ≡ Some k → (test k ≡ true) × Among k (x ∷ xs))
    (λ t s. let same : x ≡ k = same_Some x k s in (rw (← same) t, inl (sym same)))
    (λ t s. let more = find_found test xs k s in (more.0, inr more.1))
    e

find_first : (test : ℤ → Bool) (xs : List ℤ) (k : ℤ) → Among k xs → test k ≡ true → ((x : ℤ) → test x ≡ true → x ≡ k) → find test xs ≡ Some k
find_first test [] k among t one = absurd among
find_first test (x ∷ xs) k among t one =
    cond_both (test x) (Some x) (find test xs) (λ (o : Option ℤ). o ≡ Some k)
    (λ s. ap (λ (y : ℤ). Some y) (one x s))
    (λ s. elim among [
      | inl here ↦ absurd (both_ways (test x) s (rw (← here) t))
      | inr there ↦ find_first test xs k there t one
    ])

find_none : (test : ℤ → Bool) (xs : List ℤ) → ((x : ℤ) → Among x xs → test x ≡ true → ⊥) → find test xs ≡ None
find_none test [] never = refl
find_none test (x ∷ xs) never =
    cond_both (test x) (Some x) (find test xs) (λ (o : Option ℤ). o ≡ None)
    (λ t. absurd (never x (inl refl) t))
    (λ t. find_none test xs (λ y among. never y (inr among)))

abbrev IsUnitPower : ℤ → Type 0
IsUnitPower k = (negsuc 2 ≤ℤ k) × (k ≤ℤ pos 3)

among_range : (k : ℤ) → Among k unit_powers → IsUnitPower k
among_range k (inl e) = (omega (arith, ints), omega (arith, ints))
among_range k (inr (inl e)) = (omega (arith, ints), omega (arith, ints))
among_range k (inr (inr (inl e))) = (omega (arith, ints), omega (arith, ints))
among_range k (inr (inr (inr (inl e)))) = (omega (arith, ints), omega (arith, ints))
among_range k (inr (inr (inr (inr (inl e))))) = (omega (arith, ints), omega (arith, ints))
among_range k (inr (inr (inr (inr (inr (inl e)))))) = (omega (arith, ints), omega (arith, ints))
among_range k (inr (inr (inr (inr (inr (inr (inl e))))))) = (omega (arith, ints), omega (arith, ints))
among_range k (inr (inr (inr (inr (inr (inr (inr none))))))) = absurd none

range_among : (k : ℤ) → IsUnitPower k → Among k unit_powers
range_among (negsuc (suc (suc zero))) h = inl refl
range_among (negsuc (suc zero)) h = inr (inl refl)
range_among (negsuc zero) h = inr (inr (inl refl))
range_among (pos zero) h = inr (inr (inr (inl refl)))
range_among (pos (suc zero)) h = inr (inr (inr (inr (inl refl))))
range_among (pos (suc (suc zero))) h = inr (inr (inr (inr (inr (inl refl)))))
range_among (pos (suc (suc (suc zero)))) h = inr (inr (inr (inr (inr (inr (inl refl))))))
range_among (pos (suc (suc (suc (suc n))))) h = absurd (omega (arith, ints, h.1))
range_among (negsuc (suc (suc (suc n)))) h = absurd (omega (arith, ints, h.0))

-- ---- the answers of the code

pub negative_has_none : (n : Numeral) → n.negative ≡ true → None ≡ power_from (Some n)
negative_has_none n e = sym (find_none (is_ten_to n) unit_powers (λ x among t. both_ways n.negative (test_decides x n t).positive e))

pub other_has_none : (n : Numeral) → ((j : ℕ) → mantissa n ≢ 10 ^ j) → None ≡ power_from (Some n)
other_has_none n never = sym (find_none (is_ten_to n) unit_powers (λ x among t. let found = tens_from x n (test_decides x n t) in never found.0 found.1))

module _ (n : Numeral) (p : ℕ) (w : ℤ) (worth : mantissa n ≡ 10 ^ p) (cut : w ≡ clamped (exponent n +ℤ pos p)) where
  pub near_power : n.negative ≡ false → IsUnitPower w → Some w ≡ power_from (Some n)
  near_power positive range =
      let exact : w ≡ exponent n +ℤ pos p = omega (arith, ints, clamps, range.0, range.1) in
      let ten : IsTenTo w n = record { positive = positive; worth = tens_again (mantissa n) p (exponent n) w worth exact } in
      sym (find_first (is_ten_to n) unit_powers w (range_among w range) (test_passes w n ten) (λ x t. power_one x w n (test_decides x n t) ten))

  pub far_power : (IsUnitPower w → ⊥) → None ≡ power_from (Some n)
  far_power out = sym (find_none (is_ten_to n) unit_powers (λ x among t.
      let found = tens_from x n (test_decides x n t) in
      let same : found.0 ≡ p = ten_one found.0 p (sym found.1 ∙ worth) in
      let x-is : x ≡ exponent n +ℤ pos p = found.2 ∙ ap (λ (j : ℕ). exponent n +ℤ pos j) same in
      let range = among_range x among in
      let w-is : w ≡ x = omega (arith, ints, clamps, range.0, range.1, x-is) in
      out (rw w-is range)))

-- the clause of `power_of_ten`, from the parts of the text
pub power_at : (text : List ℕ) (o : Option Numeral) → numeral_of text ≡ o → (k : ℤ)
    → (power_from o ≡ Some k) ↔ ((negsuc 2 ≤ℤ k) × (k ≤ℤ pos 3) × IsNumberWith text (IsTenTo k))
power_at text None e k = (λ s. absurd (none-some k s), λ w. absurd (no_number text e w.2.0 w.2.1))
power_at text (Some n) e k =
    let i = numeral_takes text n e in (
      λ s.
          let found = find_found (is_ten_to n) unit_powers k s in
          let range = among_range k found.1 in
          (range.0, range.1, (n, i, test_decides k n found.0)),
      λ w.
          let ten = at_number text n (IsTenTo k) i w.2 in
          find_first (is_ten_to n) unit_powers k (range_among k (w.0, w.1)) (test_passes k n ten) (λ x t. power_one x k n (test_decides x n t) ten),
    )
