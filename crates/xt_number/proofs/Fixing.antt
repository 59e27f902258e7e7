-- What a text means at a scale: each fault just where its fact holds, and else the value.
use Rattle.std.proofs.Common.{◌≡◌, ℕ, ◌^◌, ◌<◌, ◌≤◌, Bool, true, false, cond, List, [], ◌∷◌, ◌++◌, Option, Some, None, Result, Ok, Err, refl, sym, subst, ◌∙◌, arith, inl, inr}
use Rattle.std.specs.Prelude.{◌↔◌, nat_lt, ℤ, ◌+ℤ◌}
use Rattle.std.specs.Str.Parse.{AllDigits}
use Rattle.std.proofs.lemmas.Bool.{cases_lt, ltb-true, ltb-false, lt-ltb, le-ltb}
use Rattle.std.proofs.lemmas.Option.{same_Some, none-some}
use Rattle.xt_number.specs.declared.fault.NumberFault.{NumberFault}
use Rattle.xt_number.specs.declared.fault.NumberFault.TheVariants as fault
use Rattle.xt_number.specs.Numeral.{Numeral, IsNumber, IsNumberWith, IsNoNumber}
use Rattle.xt_number.specs.Reading.{numeral_of}
use Rattle.xt_number.specs.Value.{mantissa, exponent, signed, digit_count, rounded, size, scaled, clamped, fixed_from, IsTooLong, IsBeyond, IsFixed}
use Rattle.xt_number.proofs.Grammar.{numeral_takes, numeral_again}
use Rattle.xt_number.proofs.Values.{large_from_long, small_from_short, same, beyond, clamp_harmless}

-- ---- from the code's tests

append_digits : (xs ys : List ℕ) → AllDigits 10 xs → AllDigits 10 ys → AllDigits 10 (xs ++ ys)
append_digits [] ys h k = k
append_digits (x ∷ xs) ys h k = (h.0, append_digits xs ys h.1 k)

module _ (n : Numeral) (scale : ℤ) (whole : AllDigits 10 n.whole) (fraction : AllDigits 10 n.fraction) where
  all : AllDigits 10 (n.whole ++ n.fraction)
  all = append_digits n.whole n.fraction whole fraction

  long : 10 ^ 30 ≤ mantissa n → 30 < digit_count n
  long large = elim (cases_lt 30 (digit_count n)) [
    | inl lt ↦ lt
    | inr le ↦ absurd (omega (arith, large, small_from_short 30 (n.whole ++ n.fraction) all le))
  ]

  short : mantissa n < 10 ^ 30 → digit_count n ≤ 30
  short small = elim (cases_lt 30 (digit_count n)) [
    | inl lt ↦ absurd (omega (arith, small, large_from_long 30 (n.whole ++ n.fraction) all lt))
    | inr le ↦ le
  ]

  pub fixed_digits : 10 ^ 30 ≤ mantissa n → Err fault.Digits ≡ fixed_from (Some n) scale
  fixed_digits large = rw (lt-ltb 30 (digit_count n) (long large)) refl

  pub fixed_range : (m : ℕ) (p : ℤ) → m ≡ mantissa n → m < 10 ^ 30 → p ≡ clamped (exponent n +ℤ scale) → 2 ^ 40 < rounded m p
      → Err fault.Range ≡ fixed_from (Some n) scale
  fixed_range m p m-is small p-is far =
      let few = le-ltb 30 (digit_count n) (short (omega (arith, m-is, small))) in
      let far' : 2 ^ 40 < rounded (mantissa n) (clamped (exponent n +ℤ scale)) = rw (← m-is, ← p-is) far in
      let out : 2 ^ 40 < size n scale = elim (clamp_harmless (mantissa n) (exponent n +ℤ scale) (omega (arith, m-is, small))) [ same e ↦ omega (arith, e, far') | beyond a b ↦ b ] in
      rw (few, lt-ltb (2 ^ 40) (size n scale) out) refl

  pub fixed_value : (m : ℕ) (p : ℤ) (s : ℕ) (x : ℤ) → m ≡ mantissa n → m < 10 ^ 30 → p ≡ clamped (exponent n +ℤ scale) → s ≡ rounded m p → s ≤ 2 ^ 40
      → x ≡ signed n.negative s → Ok x ≡ fixed_from (Some n) scale
  fixed_value m p s x m-is small p-is is near x-is =
      let few = le-ltb 30 (digit_count n) (short (omega (arith, m-is, small))) in
      let is' : s ≡ rounded (mantissa n) (clamped (exponent n +ℤ scale)) = rw (← m-is, ← p-is) is in
      let s-is : s ≡ size n scale = elim (clamp_harmless (mantissa n) (exponent n +ℤ scale) (omega (arith, m-is, small))) [ same e ↦ is' ∙ e | beyond a b ↦ absurd (omega (arith, a, is', near)) ] in
      rw (few, le-ltb (2 ^ 40) (size n scale) (omega (arith, s-is, near)), x-is, s-is) refl

-- ---- the meaning by the parts

-- the answer from the two tests
abbrev chosen : Bool → Bool → ℤ → Result ℤ NumberFault
chosen long far x = cond long (Err fault.Digits) (cond far (Err fault.Range) (Ok x))

never_form : (long far : Bool) (x : ℤ) → chosen long far x ≡ Err fault.Form → ⊥
never_form true far x e = cc
never_form false true x e = cc
never_form false false x e = cc

is_digits : (long far : Bool) (x : ℤ) → (chosen long far x ≡ Err fault.Digits) ↔ (long ≡ true)
is_digits true far x = (λ e. refl, λ e. refl)
is_digits false true x = (λ e. absurd cc, λ e. absurd cc)
is_digits false false x = (λ e. absurd cc, λ e. absurd cc)

is_range : (long far : Bool) (x : ℤ) → (chosen long far x ≡ Err fault.Range) ↔ ((long ≡ false) × (far ≡ true))
is_range true far x = (λ e. absurd cc, λ e. absurd (let h = e.0 in cc))
is_range false true x = (λ e. (refl, refl), λ e. refl)
is_range false false x = (λ e. absurd cc, λ e. absurd (let h = e.1 in cc))

is_value : (long far : Bool) (x y : ℤ) → (chosen long far x ≡ Ok y) ↔ ((long ≡ false) × (far ≡ false) × (y ≡ x))
is_value true far x y = (λ e. absurd cc, λ e. absurd (let h = e.0 in cc))
is_value false true x y = (λ e. absurd cc, λ e. absurd (let h = e.1 in cc))
is_value false false x y = (λ e. (refl, refl, cc), λ e. let h = e.2 in cc)

-- a text has at most one numeral
pub numeral_one : (text : List ℕ) (m n : Numeral) → IsNumber text m → IsNumber text n → m ≡ n
numeral_one text m n i j = same_Some m n (sym (numeral_again text m i) ∙ numeral_again text n j)

pub at_number : (text : List ℕ) (n : Numeral) (P : Numeral → Type 0) → IsNumber text n → IsNumberWith text P → P n
at_number text n P i w = subst P (numeral_one text w.0 n w.1 i) w.2

pub no_number : (text : List ℕ) → numeral_of text ≡ None → IsNoNumber text
no_number text e n i = none-some n (sym e ∙ numeral_again text n i)

-- each clause of `read_fixed`, from the parts of the text
module _ (text : List ℕ) (scale : ℤ) where
  pub form_at : (o : Option Numeral) → numeral_of text ≡ o → (fixed_from o scale ≡ Err fault.Form) ↔ IsNoNumber text
  form_at None e = (λ _. no_number text e, λ _. refl)
  form_at (Some n) e = (
    λ s. absurd (never_form (nat_lt 30 (digit_count n)) (nat_lt (2 ^ 40) (size n scale)) (scaled n scale) s),
    λ no. absurd (no n (numeral_takes text n e)),
  )

  pub digits_at : (o : Option Numeral) → numeral_of text ≡ o → (fixed_from o scale ≡ Err fault.Digits) ↔ IsNumberWith text IsTooLong
  digits_at None e = (λ s. absurd cc, λ w. absurd (no_number text e w.0 w.1))
  digits_at (Some n) e =
      let decides = is_digits (nat_lt 30 (digit_count n)) (nat_lt (2 ^ 40) (size n scale)) (scaled n scale) in
      let i = numeral_takes text n e in (
        λ s. (n, i, ltb-true 30 (digit_count n) (decides.0 s)),
        λ w. decides.1 (lt-ltb 30 (digit_count n) (at_number text n IsTooLong i w)),
      )

  pub range_at : (o : Option Numeral) → numeral_of text ≡ o → (fixed_from o scale ≡ Err fault.Range) ↔ IsNumberWith text (IsBeyond scale)
  range_at None e = (λ s. absurd cc, λ w. absurd (no_number text e w.0 w.1))
  range_at (Some n) e =
      let decides = is_range (nat_lt 30 (digit_count n)) (nat_lt (2 ^ 40) (size n scale)) (scaled n scale) in
      let i = numeral_takes text n e in (
        λ s. (n, i, (ltb-false 30 (digit_count n) (decides.0 s).0, ltb-true (2 ^ 40) (size n scale) (decides.0 s).1)),
        λ w. let p = at_number text n (IsBeyond scale) i w in decides.1 (le-ltb 30 (digit_count n) p.0, lt-ltb (2 ^ 40) (size n scale) p.1),
      )

  pub value_at : (o : Option Numeral) → numeral_of text ≡ o → (x : ℤ) → (fixed_from o scale ≡ Ok x) ↔ IsNumberWith text (IsFixed scale x)
  value_at None e x = (λ s. absurd cc, λ w. absurd (no_number text e w.0 w.1))
  value_at (Some n) e x =
      let decides = is_value (nat_lt 30 (digit_count n)) (nat_lt (2 ^ 40) (size n scale)) (scaled n scale) x in
      let i = numeral_takes text n e in (
        λ s. (n, i, (ltb-false 30 (digit_count n) (decides.0 s).0, ltb-false (2 ^ 40) (size n scale) (decides.0 s).1, (decides.0 s).2)),
        λ w. let p = at_number text n (IsFixed scale x) i w in decides.1 (le-ltb 30 (digit_count n) p.0, le-ltb (2 ^ 40) (size n scale) p.1, p.2),
      )
