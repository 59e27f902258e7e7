-- Powers of ten: which digits write one, and which numbers are one.
use Rattle.std.proofs.Common.{◌≡◌, ◌≢◌, ℕ, suc, ◌+◌, ◌-◌, ◌*◌, ◌^◌, ◌<◌, ◌≤◌, true, false, cond, List, [], ◌∷◌, length, drop, Option, Some, None, refl, sym, ap, subst, ◌∙◌, arith, inl, inr}
use Rattle.std.specs.Prelude.{◌==◌, MatchOption}
use Rattle.std.specs.Char.{digit_value}
use Rattle.std.specs.List.{prefix_len, list_all}
use Rattle.std.specs.Str.Parse.{AllDigits, digits_value}
use Rattle.std.proofs.Math.Nat.{pow-suc, pow-le-pow_right, mul-le-mul_right}
use Rattle.std.proofs.lemmas.Bool.{cond_both, eqb-true, eq-eqb, cases_lt, cases_Bool, and_parts, and_from, both_ways}
use Rattle.std.proofs.lemmas.Option.{none-some, cond_some}
use Rattle.std.proofs.lemmas.Int.Digits.{digits_value-lt}
use Rattle.std.proofs.lemmas.Nat.{pow-add, same_from_place}
use Rattle.xt_number.specs.Numeral.{Numeral}
use Rattle.xt_number.specs.Value.{without_zeros, place_at, mantissa}
use Rattle.xt_number.proofs.Values.{value_after, after_append, digit_off, zeros_worth_nothing, zeros_keep_digits, first_above_zero, BeginsAboveZero, ten_within}

-- ---- zeros

pub zeros_dropped : (ds : List ℕ) → drop (prefix_len (λ d. d == 48) ds) ds ≡ without_zeros ds
zeros_dropped [] = refl
zeros_dropped (d ∷ ds) =
    let count : ℕ = prefix_len (λ c. c == 48) ds in
    let one : 1 + count ≡ suc count = omega arith in
    elim (cases_Bool (d == 48)) [
      | inl e ↦ rw (e, one) (zeros_dropped ds)
      | inr e ↦ rw e refl
    ]

-- digits worth nothing are zeros
pub zeros_from_value : (ds : List ℕ) → AllDigits 10 ds → digits_value 10 ds ≡ 0 → list_all (λ d. d == 48) ds ≡ true
zeros_from_value [] h e = refl
zeros_from_value (d ∷ ds) h e =
    let whole = value_after (0 * 10 + digit_value d) ds in
    let unit = ten_within (length ds) (length ds) (omega arith) in
    let none : digit_value d ≡ 0 = elim (cases_lt 0 (digit_value d)) [
      | inl some ↦ let weigh : 1 * 10 ^ length ds ≤ (0 * 10 + digit_value d) * 10 ^ length ds = mul-le-mul_right (10 ^ length ds) (omega arith) in absurd (omega (arith, whole, weigh, unit, e))
      | inr le ↦ omega arith
    ] in
    let rest : digits_value 10 ds ≡ 0 = omega (arith, whole, e) in
    and_from (d == 48) (list_all (λ c. c == 48) ds) (eq-eqb d 48 (omega (arith, digit_off d h.0, none))) (zeros_from_value ds h.1 rest)

pub value_from_zeros : (ds : List ℕ) → list_all (λ d. d == 48) ds ≡ true → digits_value 10 ds ≡ 0
value_from_zeros [] h = refl
value_from_zeros (d ∷ ds) h =
    let parts = and_parts (d == 48) (list_all (λ c. c == 48) ds) h in
    rw (eqb-true d 48 parts.0) (value_from_zeros ds parts.1)

-- ---- a one and zeros

pub one_and_zeros : (ds zs : List ℕ) → without_zeros ds ≡ 49 ∷ zs → digits_value 10 zs ≡ 0 → digits_value 10 ds ≡ 10 ^ length zs
one_and_zeros ds zs e none =
    let whole = value_after (0 * 10 + digit_value 49) zs in
    sym (zeros_worth_nothing ds) ∙ ap (λ (t : List ℕ). digits_value 10 t) e ∙ omega (arith, whole, none)

pub ten_apart : (i j : ℕ) → i < j → 10 ^ i * 10 ≤ 10 ^ j
ten_apart i j h =
    let more : 10 ^ suc i ≡ 10 ^ i * 10 = pow-suc 10 i in
    let up : 10 ^ suc i ≤ 10 ^ j = pow-le-pow_right (omega arith) (omega arith) in
    omega (arith, more, up)

-- digits that write a power of ten, with no zero in front, are a one and zeros
ten_shape : (ds : List ℕ) (j : ℕ) → AllDigits 10 ds → BeginsAboveZero ds → digits_value 10 ds ≡ 10 ^ j
    → (zs : List ℕ) × (ds ≡ 49 ∷ zs) × (digits_value 10 zs ≡ 0)
ten_shape [] j h first e = absurd (omega (arith, e, (ten_within j j (omega arith)).0))
ten_shape (d ∷ zs) j h first e =
    let whole = value_after (0 * 10 + digit_value d) zs in
    let below : digits_value 10 zs < 10 ^ length zs = digits_value-lt 10 zs h.1 in
    let least : 1 * 10 ^ length zs ≤ (0 * 10 + digit_value d) * 10 ^ length zs = mul-le-mul_right (10 ^ length zs) (omega arith) in
    let most : (0 * 10 + digit_value d) * 10 ^ length zs ≤ 9 * 10 ^ length zs = mul-le-mul_right (10 ^ length zs) (omega (arith, h.0)) in
    let j-is : j ≡ length zs = elim (cases_lt j (length zs)) [
      | inl lt ↦ absurd (omega (arith, ten_apart j (length zs) lt, whole, least, e, (ten_within j j (omega arith)).0))
      | inr ge ↦ elim (cases_lt (length zs) j) [
        | inl lt ↦ absurd (omega (arith, ten_apart (length zs) j lt, whole, most, below, e))
        | inr le ↦ omega arith
      ]
    ] in
    let unit : digits_value 10 (d ∷ zs) ≡ 10 ^ length zs = rw (← j-is) e in
    let one : digit_value d ≡ 1 = elim (cases_lt 1 (digit_value d)) [
      | inl lt ↦ let twice : 2 * 10 ^ length zs ≤ (0 * 10 + digit_value d) * 10 ^ length zs = mul-le-mul_right (10 ^ length zs) (omega arith) in absurd (omega (arith, twice, whole, unit, below))
      | inr le ↦ omega (arith, first)
    ] in
    let same : (0 * 10 + digit_value d) * 10 ^ length zs ≡ 1 * 10 ^ length zs = rw one refl in
    (zs, ap (λ (b : ℕ). b ∷ zs) (omega (arith, digit_off d h.0, one)), omega (arith, whole, unit, same))

pub ten_from_value : (ds : List ℕ) (j : ℕ) → AllDigits 10 ds → digits_value 10 ds ≡ 10 ^ j
    → (zs : List ℕ) × (without_zeros ds ≡ 49 ∷ zs) × (digits_value 10 zs ≡ 0)
ten_from_value ds j h e = ten_shape (without_zeros ds) j (zeros_keep_digits ds h) (first_above_zero ds h) (zeros_worth_nothing ds ∙ e)

shorter : (ds : List ℕ) → length (without_zeros ds) ≤ length ds
shorter [] = omega arith
shorter (d ∷ ds) =
    cond_both (d == 48) (without_zeros ds) (d ∷ ds) (λ (t : List ℕ). length t ≤ length (d ∷ ds)) (λ e. omega (arith, shorter ds)) (λ e. omega arith)

place_parts : (ds : List ℕ) (p : ℕ) → place_at ds ≡ Some p → (zs : List ℕ) × (ds ≡ 49 ∷ zs) × (digits_value 10 zs ≡ 0) × (length zs ≡ p)
unfolding place_at
place_parts [] p e = absurd (none-some p e)
place_parts (d ∷ zs) p e =
    cond_both (d == 49) (cond (list_all (λ c. c == 48) zs) (Some (length zs)) None) None (λ (o : Option ℕ). o ≡ Some p → (ys : List ℕ) × (d ∷ zs ≡ 49 ∷ ys) × (digits_value 10 ys ≡ 0) × (length ys ≡ p))
    (λ one s. let chosen = cond_some (list_all (λ c. c == 48) zs) (length zs) p s in (zs, ap (λ (b : ℕ). b ∷ zs) (eqb-true d 49 one), value_from_zeros zs chosen.0, chosen.1))
    (λ one s. absurd (none-some p s))
    e

place_again : (ds zs : List ℕ) → AllDigits 10 ds → ds ≡ 49 ∷ zs → digits_value 10 zs ≡ 0 → place_at ds ≡ Some (length zs)
unfolding place_at
place_again ds zs h e none =
    let digits : AllDigits 10 (49 ∷ zs) = subst (λ (t : List ℕ). AllDigits 10 t) e h in
    rw (e, zeros_from_value zs digits.1 none) refl

-- which power of ten digits write
pub place_law : (ds : List ℕ) (r : Option ℕ) → AllDigits 10 ds → r ≡ place_at (without_zeros ds)
    → MatchOption r ((j : ℕ) → digits_value 10 ds ≢ 10 ^ j) (λ j. (digits_value 10 ds ≡ 10 ^ j) × (j < length ds))
place_law ds None h e = λ j worth.
    let shape = ten_from_value ds j h worth in
    none-some (length shape.0) (e ∙ place_again (without_zeros ds) shape.0 (zeros_keep_digits ds h) shape.1 shape.2)
place_law ds (Some p) h e =
    let parts = place_parts (without_zeros ds) p (sym e) in
    let len : length (without_zeros ds) ≡ suc (length parts.0) = ap (λ (t : List ℕ). length t) parts.1 in
    (one_and_zeros ds parts.0 parts.1 parts.2 ∙ ap (λ (k : ℕ). 10 ^ k) parts.3, omega (arith, len, parts.3, shorter ds))

-- ---- the mantissa

mantissa_is : (n : Numeral) → mantissa n ≡ digits_value 10 n.whole * 10 ^ length n.fraction + digits_value 10 n.fraction
mantissa_is n = after_append 0 n.whole n.fraction ∙ value_after (digits_value 10 n.whole) n.fraction

pub place_in_fraction : (n : Numeral) (r : Option ℕ) → list_all (λ d. d == 48) n.whole ≡ true
    → MatchOption r ((j : ℕ) → digits_value 10 n.fraction ≢ 10 ^ j) (λ j. (digits_value 10 n.fraction ≡ 10 ^ j) × (j < length n.fraction))
    → MatchOption r ((j : ℕ) → mantissa n ≢ 10 ^ j) (λ j. mantissa n ≡ 10 ^ j)
place_in_fraction n r zeros h =
    let whole : digits_value 10 n.whole * 10 ^ length n.fraction ≡ 0 = rw (value_from_zeros n.whole zeros) (omega arith) in
    let same : mantissa n ≡ digits_value 10 n.fraction = omega (arith, mantissa_is n, whole) in
    go r h same
  where
    go : (r : Option ℕ) → MatchOption r ((j : ℕ) → digits_value 10 n.fraction ≢ 10 ^ j) (λ j. (digits_value 10 n.fraction ≡ 10 ^ j) × (j < length n.fraction))
        → mantissa n ≡ digits_value 10 n.fraction → MatchOption r ((j : ℕ) → mantissa n ≢ 10 ^ j) (λ j. mantissa n ≡ 10 ^ j)
    go None h same = λ j e. h j (sym same ∙ e)
    go (Some p) h same = same ∙ h.0

module _ (n : Numeral) (zeros : list_all (λ d. d == 48) n.fraction ≡ true) where
  whole_only : mantissa n ≡ digits_value 10 n.whole * 10 ^ length n.fraction
  whole_only = omega (arith, mantissa_is n, value_from_zeros n.fraction zeros)

  pub place_in_whole : (p : ℕ) → digits_value 10 n.whole ≡ 10 ^ p → mantissa n ≡ 10 ^ (p + length n.fraction)
  place_in_whole p e = whole_only ∙ rw (e, pow-add) refl

  pub no_place_in_whole : ((j : ℕ) → digits_value 10 n.whole ≢ 10 ^ j) → (j : ℕ) → mantissa n ≢ 10 ^ j
  no_place_in_whole none j e =
      let f : ℕ = length n.fraction in
      let unit = ten_within f f (omega arith) in
      elim (cases_lt j f) [
        | inl lt ↦
            let apart = ten_apart j f lt in
            elim (cases_lt 0 (digits_value 10 n.whole)) [
              | inl some ↦ let weigh : 1 * 10 ^ f ≤ digits_value 10 n.whole * 10 ^ f = mul-le-mul_right (10 ^ f) some in omega (arith, apart, weigh, e, whole_only, ten_within j j (omega arith))
              | inr le ↦ let nothing : digits_value 10 n.whole ≡ 0 = omega arith in let worth : digits_value 10 n.whole * 10 ^ f ≡ 0 = rw nothing (omega arith) in omega (arith, worth, e, whole_only, ten_within j j (omega arith))
            ]
        | inr ge ↦
            let split : 10 ^ j ≡ 10 ^ (j - f) * 10 ^ f = let sum : (j - f) + f ≡ j = omega arith in ap (λ (k : ℕ). 10 ^ k) (sym sum) ∙ pow-add 10 (j - f) f in
            let equal : digits_value 10 n.whole * 10 ^ f + 0 ≡ 10 ^ (j - f) * 10 ^ f + 0 = omega (arith, whole_only, e, split) in
            none (j - f) (same_from_place (digits_value 10 n.whole) 0 (10 ^ (j - f)) 0 (10 ^ f) (omega (arith, unit)) (omega (arith, unit)) equal).0
      ]

-- digits that are not zero on both sides of the point
pub no_place : (n : Numeral) → AllDigits 10 n.whole → AllDigits 10 n.fraction → list_all (λ d. d == 48) n.whole ≡ false → list_all (λ d. d == 48) n.fraction ≡ false
    → (j : ℕ) → mantissa n ≢ 10 ^ j
no_place n h k some_whole some_fraction j e =
    let f : ℕ = length n.fraction in
    let W : ℕ = digits_value 10 n.whole in
    let F : ℕ = digits_value 10 n.fraction in
    let whole : W ≢ 0 = λ z. let t : list_all (λ d. d == 48) n.whole ≡ true = zeros_from_value n.whole h z in both_ways _ some_whole t in
    let fraction : F ≢ 0 = λ z. let t : list_all (λ d. d == 48) n.fraction ≡ true = zeros_from_value n.fraction k z in both_ways _ some_fraction t in
    let below : F < 10 ^ f = digits_value-lt 10 n.fraction k in
    let weigh : 1 * 10 ^ f ≤ W * 10 ^ f = mul-le-mul_right (10 ^ f) (omega (arith, whole)) in
    elim (cases_lt f j) [
      | inl lt ↦
          let split : 10 ^ j ≡ 10 ^ (j - f) * 10 ^ f = let sum : (j - f) + f ≡ j = omega arith in ap (λ (k : ℕ). 10 ^ k) (sym sum) ∙ pow-add 10 (j - f) f in
          let equal : W * 10 ^ f + F ≡ 10 ^ (j - f) * 10 ^ f + 0 = omega (arith, mantissa_is n, e, split) in
          fraction (same_from_place W F (10 ^ (j - f)) 0 (10 ^ f) below (omega (arith, below)) equal).1
      | inr le ↦ omega (arith, (ten_within j f le).1, mantissa_is n, e, weigh, fraction)
    ]
