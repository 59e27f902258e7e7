-- The parts that are read are those that are written, and each text has at most one.
use Rattle.std.proofs.Common.{◌≡◌, ℕ, ◌+◌, ◌<◌, Bool, true, false, not, leb, ◌||◌, cond, List, [], ◌∷◌, ◌++◌, length, drop, Option, Some, None, refl, sym, ap, subst, ◌∙◌, arith, inl, inr}
use Rattle.std.specs.Prelude.{◌==◌, ◌⊎◌, nat_lt}
use Rattle.std.specs.Char.{is_ascii_digit, digit_value}
use Rattle.std.specs.List.{prefix_len, take_while, list_all}
use Rattle.std.specs.Str.Parse.{AllDigits}
use Rattle.std.proofs.lemmas.Bool.{cond_both, eqb-true, ne_eqb, and_parts, and_from, or_cases, leb-true, le-leb, lt-ltb, ltb-true}
use Rattle.std.proofs.lemmas.Bool.Decides.{nat_tests}
use Rattle.std.proofs.lemmas.List.{take_at, drop_at, take-append-drop}
use Rattle.std.proofs.lemmas.List.Sums.{take_while-cons}
use Rattle.std.proofs.lemmas.Option.{same_Some, none-some, cond_some}
use Rattle.std.proofs.lemmas.List.Folds.{length-prefix_len}
use Rattle.std.proofs.lemmas.Str.{digit_value_digit}
use Rattle.std.proofs.lemmas.Str.Parse.{digit_from_value}
use Rattle.xt_number.specs.Numeral.{Numeral, IsSign, fraction_bytes, IsExponent, IsNumber}
use Rattle.xt_model.specs.Options.{◌>>=◌}
use Rattle.xt_number.specs.Reading.{signed_at, digits_at, fraction_at, is_numeral, exponent_at, has_digit, with_digit, numeral_of}

-- ---- digits

digit_below : (c : ℕ) → is_ascii_digit c ≡ true → digit_value c < 10
digit_below c e =
    let parts : (leb 48 c ≡ true) × (leb c 57 ≡ true) = and_parts _ _ e in
    omega (arith, digit_value_digit c (leb-true _ _ parts.0, leb-true _ _ parts.1), leb-true _ _ parts.1)

digit_is : (c : ℕ) → digit_value c < 10 → is_ascii_digit c ≡ true
digit_is c h = let range = digit_from_value c h in and_from _ _ (le-leb _ _ range.0) (le-leb _ _ range.1)

front_digits : (bs : List ℕ) → AllDigits 10 (take_while is_ascii_digit bs)
front_digits [] = tt
front_digits (c ∷ bs) =
    rw take_while-cons (cond_both (is_ascii_digit c) (c ∷ take_while is_ascii_digit bs) [] (λ (ds : List ℕ). AllDigits 10 ds) (λ e. (digit_below c e, front_digits bs)) (λ e. tt))

all_digits : (bs : List ℕ) → list_all is_ascii_digit bs ≡ true → AllDigits 10 bs
all_digits [] e = tt
all_digits (c ∷ bs) e = let parts = and_parts _ _ e in (digit_below c parts.0, all_digits bs parts.1)

all_digits_again : (bs : List ℕ) → AllDigits 10 bs → list_all is_ascii_digit bs ≡ true
all_digits_again [] h = refl
all_digits_again (c ∷ bs) h = and_from _ _ (digit_is c h.0) (all_digits_again bs h.1)

-- bytes behind digits end them
abbrev EndsDigits : List ℕ → Type 0
EndsDigits rest = prefix_len is_ascii_digit rest ≡ 0

front_again : (ds rest : List ℕ) → AllDigits 10 ds → EndsDigits rest → prefix_len is_ascii_digit (ds ++ rest) ≡ length ds
front_again [] rest h ends = ends
front_again (d ∷ ds) rest h ends = rw (digit_is d h.0) (omega (arith, front_again ds rest h.1 ends))

digits_again : (ds rest : List ℕ) → AllDigits 10 ds → EndsDigits rest → digits_at (ds ++ rest) ≡ (ds, rest)
digits_again ds rest h ends =
    let len = front_again ds rest h ends in
    rw (len, take_at ds rest (length ds) refl, drop_at ds rest (length ds) refl) refl

-- ---- signs

signed_takes : (text : List ℕ) → (sign : List ℕ) × IsSign (signed_at text).0 sign × (text ≡ sign ++ (signed_at text).1)
unfolding signed_at
signed_takes [] = ([], inl refl, refl)
signed_takes (b ∷ bs) =
    let P : Bool × List ℕ → Type 0 = λ x. (sign : List ℕ) × IsSign x.0 sign × (b ∷ bs ≡ sign ++ x.1) in
    cond_both (b == 45) (true, bs) (cond (b == 43) (false, bs) (false, b ∷ bs)) P
    (λ e. (45 ∷ [], refl, ap (λ (n : ℕ). n ∷ bs) (eqb-true b 45 e)))
    (λ e. cond_both (b == 43) (false, bs) (false, b ∷ bs) P
    (λ f. (43 ∷ [], inr refl, ap (λ (n : ℕ). n ∷ bs) (eqb-true b 43 f)))
    (λ f. ([], inl refl, refl)))

-- bytes that begin with no sign
abbrev HasNoSign : List ℕ → Type 0
HasNoSign [] = Unit {0}
HasNoSign (b ∷ bs) = ((b == 45) ≡ false) × ((b == 43) ≡ false)

unsigned_again : (rest : List ℕ) → HasNoSign rest → signed_at rest ≡ (false, rest)
unfolding signed_at
unsigned_again [] h = refl
unsigned_again (b ∷ bs) h = rw (h.0, h.1) refl

signed_again : (negative : Bool) (sign rest : List ℕ) → IsSign negative sign → HasNoSign rest → signed_at (sign ++ rest) ≡ (negative, rest)
unfolding signed_at
signed_again true sign rest is h = rw is refl
signed_again false sign rest is h =
    elim is [ inl none ↦ rw none (unsigned_again rest h) | inr plus ↦ rw plus refl ]

-- ---- fractions

fraction_bytes_some : (ds : List ℕ) → 0 < length ds → fraction_bytes ds ≡ 46 ∷ ds
fraction_bytes_some [] h = absurd (omega arith)
fraction_bytes_some (d ∷ ds) h = refl

fraction_takes : (bs : List ℕ) (x : List ℕ × List ℕ) → fraction_at bs ≡ Some x → (bs ≡ fraction_bytes x.0 ++ x.1) × AllDigits 10 x.0
unfolding fraction_at
fraction_takes [] x e =
    let P : List ℕ × List ℕ → Type 0 = λ y. ([] ≡ fraction_bytes y.0 ++ y.1) × AllDigits 10 y.0 in
    subst P (same_Some _ _ e) (refl, tt)
fraction_takes (b ∷ bs) x e =
    let P : List ℕ × List ℕ → Type 0 = λ y. (b ∷ bs ≡ fraction_bytes y.0 ++ y.1) × AllDigits 10 y.0 in
    let count : ℕ = prefix_len is_ascii_digit bs in
    cond_both (b == 46) (cond (nat_lt 0 count) (Some (digits_at bs)) None) (Some ([], b ∷ bs)) (λ (o : Option (List ℕ × List ℕ)). o ≡ Some x → P x)
    (λ dot s.
    let chosen = cond_some (nat_lt 0 count) (digits_at bs) x s in
    let some : 0 < length (take_while is_ascii_digit bs) = omega (arith, ltb-true 0 count chosen.0, length-prefix_len is_ascii_digit bs) in
    let joined : b ∷ bs ≡ (46 ∷ take_while is_ascii_digit bs) ++ drop count bs = rw (eqb-true b 46 dot, take-append-drop) refl in
    subst P chosen.1 (rw (fraction_bytes_some (take_while is_ascii_digit bs) some) joined, front_digits bs))
    (λ dot s. subst P (same_Some _ _ s) (refl, tt))
    e

-- ---- exponents

-- an exponent of some digits
abbrev IsMarked : Bool → List ℕ → List ℕ → Type 0
IsMarked negative ds bytes = (mark : ℕ) × (sign : List ℕ) × ((mark ≡ 101) ⊎ (mark ≡ 69)) × IsSign negative sign × (bytes ≡ mark ∷ (sign ++ ds))

exponent_from : (negative : Bool) (ds bytes : List ℕ) → 0 < length ds → IsMarked negative ds bytes → IsExponent negative ds bytes
exponent_from negative [] bytes lt h = absurd (omega arith)
exponent_from negative (d ∷ ds) bytes lt h = h

mark_from : (b : ℕ) → (b == 101 || b == 69) ≡ true → (b ≡ 101) ⊎ (b ≡ 69)
mark_from b e = elim (or_cases _ _ e) [ inl lower ↦ inl (eqb-true b 101 lower) | inr upper ↦ inr (eqb-true b 69 upper) ]

mark_again : (b : ℕ) → (b ≡ 101) ⊎ (b ≡ 69) → (b == 101 || b == 69) ≡ true
mark_again b (inl lower) = rw lower refl
mark_again b (inr upper) = rw upper refl

some_digits : (ds : List ℕ) → not (length ds == 0) ≡ true → 0 < length ds
some_digits [] e = absurd cc
some_digits (d ∷ ds) e = omega arith

exponent_takes : (bs : List ℕ) (x : Bool × List ℕ) → exponent_at bs ≡ Some x → IsExponent x.0 x.1 bs × AllDigits 10 x.1
unfolding exponent_at
exponent_takes [] x e =
    let P : Bool × List ℕ → Type 0 = λ y. IsExponent y.0 y.1 [] × AllDigits 10 y.1 in
    subst P (same_Some _ _ e) ((refl, refl), tt)
exponent_takes (b ∷ bs) x e =
    let P : Bool × List ℕ → Type 0 = λ y. IsExponent y.0 y.1 (b ∷ bs) × AllDigits 10 y.1 in
    let s = signed_at bs in
    cond_both (b == 101 || b == 69) (cond (is_numeral s.1) (Some s) None) None (λ (o : Option (Bool × List ℕ)). o ≡ Some x → P x)
    (λ mark c.
    let chosen = cond_some (is_numeral s.1) s x c in
    let parts = and_parts _ _ chosen.0 in
    let all_parts = signed_takes bs in
    subst P chosen.1 (exponent_from s.0 s.1 (b ∷ bs) (some_digits s.1 parts.0) (b, all_parts.0, mark_from b mark, all_parts.1, ap (λ (t : List ℕ). b ∷ t) all_parts.2), all_digits s.1 parts.1))
    (λ mark c. absurd (none-some x c))
    e

-- ---- whole texts

bind_some : {A B : Type 0} (o : Option A) (f : A → Option B) (y : B) → (o >>= f) ≡ Some y → (x : A) × (o ≡ Some x) × (f x ≡ Some y)
bind_some (Some x) f y e = (x, refl, e)
bind_some None f y e = absurd (none-some y e)

has_some : (n : Numeral) → has_digit n ≡ true → 0 < length n.whole + length n.fraction
has_some n e = grind (arith, nat_tests)

pub numeral_takes : (text : List ℕ) (n : Numeral) → numeral_of text ≡ Some n → IsNumber text n
unfolding numeral_of
numeral_takes text n e =
    let sign = signed_takes text in
    let rest = (signed_at text).1 in
    let whole = (digits_at rest).0 in
    let fraction = bind_some (fraction_at (digits_at rest).1) (λ f. exponent_at f.1 >>= λ x. with_digit (record { negative = (signed_at text).0; whole = whole; fraction = f.0; exponent_negative = x.0; exponent = x.1 })) n e in
    let f = fraction.0 in
    let power = bind_some (exponent_at f.1) (λ x. with_digit (record { negative = (signed_at text).0; whole = whole; fraction = f.0; exponent_negative = x.0; exponent = x.1 })) n fraction.2 in
    let x = power.0 in
    let m : Numeral = record { negative = (signed_at text).0; whole = whole; fraction = f.0; exponent_negative = x.0; exponent = x.1 } in
    let chosen = cond_some (has_digit m) m n power.2 in
    let f_parts = fraction_takes (digits_at rest).1 f fraction.1 in
    let x_parts = exponent_takes f.1 x power.1 in
    let joined : rest ≡ whole ++ (fraction_bytes f.0 ++ f.1) = rw (← f_parts.0) (sym (take-append-drop (prefix_len is_ascii_digit rest) rest)) in
    subst (λ (k : Numeral). IsNumber text k) chosen.1 (record {
      sign = sign.0;
      power = f.1;
      written = sign.2 ∙ ap (λ (t : List ℕ). sign.0 ++ t) joined;
      is_sign = sign.1;
      is_power = x_parts.0;
      whole_digits = front_digits rest;
      fraction_digits = f_parts.1;
      exponent_digits = x_parts.1;
      some_digit = has_some m chosen.0;
    })

-- ---- what is written is read again

-- an exponent is left out, or begins with its mark
abbrev BeginsWithMark : List ℕ → Type 0
BeginsWithMark [] = Unit {0}
BeginsWithMark (b ∷ bs) = (b ≡ 101) ⊎ (b ≡ 69)

power_begins : (negative : Bool) (ds power : List ℕ) → IsExponent negative ds power → BeginsWithMark power
power_begins negative [] power h = rw h.1 tt
power_begins negative (d ∷ ds) power h = rw h.4 h.2

power_ends : (power : List ℕ) → BeginsWithMark power → EndsDigits power
power_ends [] h = refl
power_ends (b ∷ bs) (inl lower) = rw lower refl
power_ends (b ∷ bs) (inr upper) = rw upper refl

no_fraction_again : (power : List ℕ) → BeginsWithMark power → fraction_at power ≡ Some ([], power)
unfolding fraction_at
no_fraction_again [] h = refl
no_fraction_again (b ∷ bs) (inl lower) = rw lower refl
no_fraction_again (b ∷ bs) (inr upper) = rw upper refl

fraction_again : (ds power : List ℕ) → AllDigits 10 ds → BeginsWithMark power → fraction_at (fraction_bytes ds ++ power) ≡ Some (ds, power)
unfolding fraction_at
fraction_again [] power h begins = no_fraction_again power begins
fraction_again (d ∷ ds) power h begins =
    let len = front_again (d ∷ ds) power h (power_ends power begins) in
    let some : nat_lt 0 (prefix_len is_ascii_digit ((d ∷ ds) ++ power)) ≡ true = lt-ltb 0 _ (omega arith) in
    rw (some, digits_again (d ∷ ds) power h (power_ends power begins)) refl

fraction_ends : (ds power : List ℕ) → BeginsWithMark power → EndsDigits (fraction_bytes ds ++ power)
fraction_ends [] power begins = power_ends power begins
fraction_ends (d ∷ ds) power begins = refl

digit_no_sign : (d : ℕ) → digit_value d < 10 → ((d == 45) ≡ false) × ((d == 43) ≡ false)
digit_no_sign d h =
    let range = digit_from_value d h in
    (ne_eqb d 45 (λ e. omega (arith, range.0)), ne_eqb d 43 (λ e. omega (arith, range.0)))

digits_no_sign : (ds rest : List ℕ) → AllDigits 10 ds → 0 < length ds → HasNoSign (ds ++ rest)
digits_no_sign [] rest h some = absurd (omega arith)
digits_no_sign (d ∷ ds) rest h some = digit_no_sign d h.0

whole_no_sign : (ds fs power : List ℕ) → AllDigits 10 ds → 0 < length ds + length fs → HasNoSign (ds ++ (fraction_bytes fs ++ power))
whole_no_sign [] [] power h some = absurd (omega arith)
whole_no_sign [] (f ∷ fs) power h some = (refl, refl)
whole_no_sign (d ∷ ds) fs power h some = digit_no_sign d h.0

exponent_again : (negative : Bool) (ds power : List ℕ) → IsExponent negative ds power → AllDigits 10 ds → exponent_at power ≡ Some (negative, ds)
unfolding exponent_at
exponent_again negative [] power h digits = rw (h.1, h.0) refl
exponent_again negative (d ∷ ds) power h digits =
    let nosign : HasNoSign (d ∷ ds) = digit_no_sign d digits.0 in
    let read : signed_at (h.1 ++ (d ∷ ds)) ≡ (negative, d ∷ ds) = signed_again negative h.1 (d ∷ ds) h.3 nosign in
    let all : list_all is_ascii_digit (d ∷ ds) ≡ true = all_digits_again (d ∷ ds) digits in
    let some : (length (d ∷ ds) == 0) ≡ false = ne_eqb _ _ (λ e. omega arith) in
    rw (h.4, mark_again h.0 h.2, read, all, some) refl

some_again : (n : Numeral) → 0 < length n.whole + length n.fraction → has_digit n ≡ true
some_again n h = grind (arith, nat_tests)

pub numeral_again : (text : List ℕ) (n : Numeral) → IsNumber text n → numeral_of text ≡ Some n
unfolding numeral_of
numeral_again text n i =
    let begins = power_begins n.exponent_negative n.exponent i.power i.is_power in
    let behind = fraction_bytes n.fraction ++ i.power in
    let sign : signed_at text ≡ (n.negative, n.whole ++ behind) = rw i.written (signed_again n.negative i.sign (n.whole ++ behind) i.is_sign (whole_no_sign n.whole n.fraction i.power i.whole_digits i.some_digit)) in
    let len : prefix_len is_ascii_digit (n.whole ++ behind) ≡ length n.whole = front_again n.whole behind i.whole_digits (fraction_ends n.fraction i.power begins) in
    let fraction : fraction_at behind ≡ Some (n.fraction, i.power) = fraction_again n.fraction i.power i.fraction_digits begins in
    let power : exponent_at i.power ≡ Some (n.exponent_negative, n.exponent) = exponent_again n.exponent_negative n.exponent i.power i.is_power i.exponent_digits in
    rw (sign, len, take_at n.whole behind (length n.whole) refl, drop_at n.whole behind (length n.whole) refl, fraction, power, some_again n i.some_digit) refl
