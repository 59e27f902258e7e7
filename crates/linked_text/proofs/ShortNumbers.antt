-- Numbers of few digits: what the digits are worth, and that it is written so.
use Rattle.std.proofs.Common.{◌≡◌, ℕ, zero, suc, ◌<◌, ◌≤◌, ◌^◌, Bool, true, false, cond, List, [], ◌∷◌, length, get_or, Option, Some, None, refl, sym, ap, subst, ◌∙◌, arith, add-one, ◌*◌, ◌+◌}
use Rattle.std.specs.Char.{is_ascii_digit, digit_value}
use Rattle.std.specs.Fmt.{decimal}
use Rattle.std.specs.List.{list_all}
use Rattle.std.specs.Str.Parse.{AllDigits, digits_value}
use Rattle.std.proofs.Math.Nat.{pow-le-pow_right, pow-succ'}
use Rattle.std.proofs.lemmas.Bool.{and_left, and_right, and_from}
use Rattle.std.proofs.lemmas.Bool.Decides.{nat_tests}
use Rattle.std.proofs.lemmas.Fmt.{decimal_is_IsNumeral_wide, decimal-digits_value, decimal_digit, first_decimal}
use Rattle.std.proofs.lemmas.Int.Digits.{digits_value-lt}
use Rattle.std.proofs.lemmas.Str.Parse.{numerals_by_value, tells_digits, digit_from_value}
use Rattle.linked_text.specs.Fields.{Finds, number_of}
use Rattle.linked_text.proofs.Options.{both_true, some_is}
use Rattle.linked_text.proofs.Decimals.{number_takes, number_again, no_number}

-- one element fails
pub list_all_fails : {X : Type 0} (p : X → Bool) (xs : List X) (i : ℕ) (d : X) → i < length xs → p (get_or xs i d) ≡ false → list_all p xs ≡ false
list_all_fails p [] i d inside fails = absurd (omega arith)
list_all_fails p (x ∷ xs) zero d inside fails = and_left _ _ fails
list_all_fails p (x ∷ xs) (suc i) d inside fails = and_right _ _ (list_all_fails p xs i d (omega arith) fails)

-- ---- digits

is_digit : (b : ℕ) → digit_value b < 10 → is_ascii_digit b ≡ true
is_digit b h = let r = digit_from_value b h in grind (arith, nat_tests)

digit_is : (b : ℕ) → is_ascii_digit b ≡ true → digit_value b < 10
digit_is b h = grind (arith, nat_tests)

are_digits : (ds : List ℕ) → AllDigits 10 ds → list_all is_ascii_digit ds ≡ true
are_digits [] h = refl
are_digits (d ∷ ds) h = and_from _ _ (is_digit d h.0) (are_digits ds h.1)

digits_are : (ds : List ℕ) → list_all is_ascii_digit ds ≡ true → AllDigits 10 ds
digits_are [] h = tt
digits_are (d ∷ ds) h = let b = both_true (is_ascii_digit d) (list_all is_ascii_digit ds) h in (digit_is d b.0, digits_are ds b.1)

short_below : (ds : List ℕ) → length ds ≤ 19 → AllDigits 10 ds → digits_value 10 ds < 2 ^ 64
short_below ds short h =
    let most : 10 ^ length ds ≤ 10 ^ 19 = pow-le-pow_right (omega arith) short in
    omega (arith, digits_value-lt 10 ds h, most)

-- one digit more
pub more_digits : (i n d : ℕ) → n < 10 ^ i → d < 10 → n * 10 + d < 10 ^ (i + 1)
more_digits i n d below digit =
    let power : 10 ^ (i + 1) ≡ 10 * 10 ^ i = ap (λ (k : ℕ). 10 ^ k) (add-one i) ∙ pow-succ' 10 i in
    omega (arith, power, below, digit)

-- less than nineteen digits
pub few_digits : (i n : ℕ) → i < 19 → n < 10 ^ i → n < 10 ^ 18
few_digits i n few below = omega (arith, pow-le-pow_right {n = 10} (omega arith) {i = i} {j = 18} (omega (arith, few)), below)

-- ---- the number that a field writes

-- digits without a needless zero are what is written for their value
pub written : (ds : List ℕ) → length ds ≤ 19 → list_all is_ascii_digit ds ≡ true → 0 < length ds → (get_or ds 0 0 ≡ 48 → length ds ≡ 1) → number_of (2 ^ 64) ds ≡ Some (digits_value 10 ds)
written ds short all some lead =
    let h = digits_are ds all in
    let below = short_below ds short h in
    let same : decimal (digits_value 10 ds) ≡ ds = decimal-digits_value (numerals_by_value _ tells_digits) ds h some lead below in
    subst (λ (t : List ℕ). number_of (2 ^ 64) t ≡ Some (digits_value 10 ds)) same (number_again (2 ^ 64) (digits_value 10 ds) below (omega (arith, below)))

-- what is not all digits is written for no number
pub not_digits : (ds : List ℕ) → list_all is_ascii_digit ds ≡ false → number_of (2 ^ 64) ds ≡ None
not_digits ds fails = no_number (2 ^ 64) ds (λ n lt e. let t : list_all is_ascii_digit ds ≡ true = subst (λ (l : List ℕ). list_all is_ascii_digit l ≡ true) (sym e) (are_digits (decimal n) (decimal_is_IsNumeral_wide n (omega (arith, lt))).0.1) in cc)

pub nothing : (ds : List ℕ) → length ds ≡ 0 → number_of (2 ^ 64) ds ≡ None
nothing ds empty = no_number (2 ^ 64) ds (λ n lt e. let some = (decimal_is_IsNumeral_wide n (omega (arith, lt))).0.0 in omega (arith, some, ap length e, empty))

-- no number but 0 begins with a zero
pub needless_zero : (ds : List ℕ) → get_or ds 0 0 ≡ 48 → 1 < length ds → number_of (2 ^ 64) ds ≡ None
needless_zero ds zero_first more = no_number (2 ^ 64) ds (λ n lt e. by n lt e)
  where
    by : (n : ℕ) → n < 2 ^ 64 → ds ≡ decimal n → ⊥
    by zero lt e = omega (arith, more, ap length (e ∙ decimal_digit 0 (omega arith)))
    by (suc n) lt e =
        let first : get_or ds 0 0 ≡ get_or (decimal (suc n)) 0 0 = ap (λ (l : List ℕ). get_or l 0 0) e in
        omega (arith, first_decimal (suc n) (omega arith) lt, first, zero_first)

-- the value of the digits, where there are some and no needless zero
pub found_short : (ds : List ℕ) (found : Option ℕ) → length ds ≤ 19 → 0 < length ds → (get_or ds 0 0 ≡ 48 → length ds ≡ 1)
    → found ≡ cond (list_all is_ascii_digit ds) (Some (digits_value 10 ds)) None → Finds {X = ℕ} {Y = ℕ} (λ x. x) found (number_of (2 ^ 64) ds)
found_short ds found short some lead is = by (list_all is_ascii_digit ds) refl is
  where
    by : (t : Bool) → list_all is_ascii_digit ds ≡ t → found ≡ cond t (Some (digits_value 10 ds)) None → Finds {X = ℕ} {Y = ℕ} (λ x. x) found (number_of (2 ^ 64) ds)
    by true all e = rw e (written ds short all some lead)
    by false all e = rw e (not_digits ds all)

-- ---- another limit

pub below_limit : (limit n : ℕ) (bytes : List ℕ) → number_of (2 ^ 64) bytes ≡ Some n → n < limit → number_of limit bytes ≡ Some n
below_limit limit n bytes e lt =
    let t = number_takes (2 ^ 64) bytes n e in
    subst (λ (l : List ℕ). number_of limit l ≡ Some n) (sym t.0) (number_again limit n lt (omega (arith, t.1)))

pub past_limit : (limit n : ℕ) (bytes : List ℕ) → number_of (2 ^ 64) bytes ≡ Some n → limit ≤ n → number_of limit bytes ≡ None
past_limit limit n bytes e past =
    no_number limit bytes (λ m lt is.
    let fits = (number_takes (2 ^ 64) bytes n e).1 in
    let again : number_of (2 ^ 64) bytes ≡ Some m = subst (λ (l : List ℕ). number_of (2 ^ 64) l ≡ Some m) (sym is) (number_again (2 ^ 64) m (omega (arith, lt, past, fits)) (omega (arith, lt, past, fits))) in
    let same : n ≡ m = some_is n m (sym e ∙ again) in
    omega (arith, same, lt, past))

pub none_short : (limit : ℕ) (bytes : List ℕ) → limit ≤ 2 ^ 127 → length bytes ≤ 19 → number_of (2 ^ 64) bytes ≡ None → number_of limit bytes ≡ None
none_short limit bytes most short e =
    no_number limit bytes (λ n lt is.
    let numeral = decimal_is_IsNumeral_wide n (omega (arith, lt, most)) in
    let digits : AllDigits 10 bytes = subst (AllDigits 10) (sym is) numeral.0.1 in
    let value : digits_value 10 bytes ≡ n = ap (digits_value 10) is ∙ numeral.1 in
    let fits : n < 2 ^ 64 = omega (arith, short_below bytes short digits, value) in
    let again : number_of (2 ^ 64) bytes ≡ Some n = subst (λ (l : List ℕ). number_of (2 ^ 64) l ≡ Some n) (sym is) (number_again (2 ^ 64) n fits (omega (arith, lt, most))) in
    let never : none_of ≡ some_of n = sym e ∙ again in
    absurd cc)
  where
    none_of : Option ℕ
    none_of = None

    some_of : ℕ → Option ℕ
    some_of n = Some n
