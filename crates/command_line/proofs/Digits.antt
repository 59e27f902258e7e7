-- The number that one to twenty digits write.
use Rattle.std.proofs.Common.{◌≡◌, ◌∙◌, ◌<◌, ◌≤◌, ◌^◌, ℕ, true, cond, nat_lt, lt-ltb, true≢false, refl, sym, arith, ap, List, [], ◌∷◌, length, Option, Some, None, Result, Ok, Err, get_or, inl, inr}
use Rattle.std.specs.Prelude.{◌≢◌}
use Rattle.std.specs.Char.{digit_value, is_ascii_digit}
use Rattle.std.specs.List.{list_all}
use Rattle.std.specs.Result.{OkIff, result_ok}
use Rattle.std.specs.Str.Parse.{AllDigits, IsNumeral, ParsesUnsigned, digits_value, without_leading_plus}
use Rattle.std.proofs.lemmas.Bool.{and_parts, cases_Bool, leb-true, ltb-true}
use Rattle.std.proofs.lemmas.Str.{digit_value_digit}
use Rattle.std.proofs.lemmas.Str.Parse.{without_leading_plus_none}
use Rattle.command_line.specs.Values.{is_number, number_of}

digit_below : (c : ℕ) → is_ascii_digit c ≡ true → (digit_value c < 10) × (48 ≤ c)
digit_below c e =
    let parts = and_parts _ _ e in
    let low : 48 ≤ c = leb-true _ _ parts.0 in
    let high : c ≤ 57 = leb-true _ _ parts.1 in
    (omega (arith, digit_value_digit c (low, high), high), low)

all_digits : (bs : List ℕ) → list_all is_ascii_digit bs ≡ true → AllDigits 10 bs
all_digits [] e = tt
all_digits (c ∷ bs) e = let parts = and_parts _ _ e in ((digit_below c parts.0).0, all_digits bs parts.1)

no_plus : (bs : List ℕ) → list_all is_ascii_digit bs ≡ true → get_or bs 0 0 ≢ 43
no_plus [] e = λ is. let bad : 0 ≡ 43 = is in omega (arith, bad)
no_plus (c ∷ bs) e = λ is. let low : 48 ≤ c = (digit_below c (and_parts _ _ e).0).1 in let bad : c ≡ 43 = is in omega (arith, bad, low)

number_is : {E : Type 0} (bits : ℕ) (text : List ℕ) (r : Result ℕ E) → is_number text ≡ true → ParsesUnsigned bits 10 text r
    → result_ok r ≡ cond (nat_lt (digits_value 10 text) (2 ^ bits)) (Some (digits_value 10 text)) None
number_is {E = E} bits text r e parses =
    let outer = and_parts _ _ e in
    let inner = and_parts _ _ outer.1 in
    let same : without_leading_plus text ≡ text = without_leading_plus_none text (no_plus text inner.1) in
    let some : 0 < length text = ltb-true _ _ outer.0 in
    let digits = all_digits text inner.1 in
    go r (rw same at parses) (some, digits)
  where
    fits : (r : Result ℕ E) → OkIff r (IsNumeral 10 text × (digits_value 10 text < 2 ^ bits)) (digits_value 10 text) → IsNumeral 10 text → digits_value 10 text < 2 ^ bits → result_ok r ≡ Some (digits_value 10 text)
    fits (Ok n) h p l = ap Some h.1
    fits (Err x) h p l = absurd (h (p, l))

    passes : (r : Result ℕ E) → OkIff r (IsNumeral 10 text × (digits_value 10 text < 2 ^ bits)) (digits_value 10 text) → (digits_value 10 text < 2 ^ bits → ⊥) → result_ok r ≡ None
    passes (Ok n) h l = absurd (l h.0.1)
    passes (Err x) h l = refl

    go : (r : Result ℕ E) → OkIff r (IsNumeral 10 text × (digits_value 10 text < 2 ^ bits)) (digits_value 10 text) → IsNumeral 10 text
        → result_ok r ≡ cond (nat_lt (digits_value 10 text) (2 ^ bits)) (Some (digits_value 10 text)) None
    go r h p = elim (cases_Bool (nat_lt (digits_value 10 text) (2 ^ bits))) [
      | inl below ↦ rw below (fits r h p (ltb-true _ _ below))
      | inr past ↦ rw past (passes r h (λ l. true≢false (sym (lt-ltb _ _ l) ∙ past)))
    ]

pub number_of_parse : {E : Type 0} (bits : ℕ) (text bytes : List ℕ) (o : Option ℕ) (r : Result ℕ E) → bytes ≡ text → is_number bytes ≡ true
    → ParsesUnsigned bits 10 text r → o ≡ result_ok r → o ≡ number_of bits text
number_of_parse {E = E} bits text bytes o r same e parses is =
    let tested : is_number text ≡ true = ap is_number (sym same) ∙ e in
    is ∙ number_is bits text r tested parses ∙ rw tested refl
