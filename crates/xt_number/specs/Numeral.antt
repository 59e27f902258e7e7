-- How a number is written.
use Rattle.std.specs.Prelude.{◌≡◌, ℕ, ◌+◌, ◌<◌, Bool, true, false, ◌⊎◌, List, [], ◌∷◌, ◌++◌, length}
use Rattle.std.specs.Str.Parse.{AllDigits}

-- the parts of a written number: `-12.5e-3` is negative, of the whole digits `12`, the fraction `5` and the negative
-- exponent `3`
pub record Numeral : Type 0 where
  pub negative : Bool
  pub whole : List ℕ
  pub fraction : List ℕ
  pub exponent_negative : Bool
  pub exponent : List ℕ

-- the sign of a negative number is `-`; that of another is `+`, or is left out
abbrev pub IsSign : Bool → List ℕ → Type 0
IsSign true bytes = bytes ≡ 45 ∷ []
IsSign false bytes = (bytes ≡ []) ⊎ (bytes ≡ 43 ∷ [])

-- a fraction stands behind a point, and no fraction has no point
abbrev pub fraction_bytes : List ℕ → List ℕ
fraction_bytes [] = []
fraction_bytes (d ∷ ds) = 46 ∷ d ∷ ds

-- an exponent of some digits stands behind `e` or `E` and its sign; one of no digits is left out
abbrev pub IsExponent : Bool → List ℕ → List ℕ → Type 0
IsExponent negative [] bytes = (negative ≡ false) × (bytes ≡ [])
IsExponent negative (d ∷ ds) bytes =
    (mark : ℕ) × (sign : List ℕ) × ((mark ≡ 101) ⊎ (mark ≡ 69)) × IsSign negative sign
    × (bytes ≡ mark ∷ (sign ++ (d ∷ ds)))

-- the text is a number of these parts: a sign, whole digits, a fraction and an exponent, with a digit before the
-- exponent
pub record IsNumber (text : List ℕ) (n : Numeral) : Type 0 where
  pub sign : List ℕ
  pub power : List ℕ
  pub written : text ≡ sign ++ (n.whole ++ (fraction_bytes n.fraction ++ power))
  pub is_sign : IsSign n.negative sign
  pub is_power : IsExponent n.exponent_negative n.exponent power
  pub whole_digits : AllDigits 10 n.whole
  pub fraction_digits : AllDigits 10 n.fraction
  pub exponent_digits : AllDigits 10 n.exponent
  pub some_digit : 0 < length n.whole + length n.fraction

-- the text is a number, and the fact holds of its parts
abbrev pub IsNumberWith : List ℕ → (Numeral → Type 0) → Type 0
IsNumberWith text P = (n : Numeral) × IsNumber text n × P n

-- the text is no number
abbrev pub IsNoNumber : List ℕ → Type 0
IsNoNumber text = (n : Numeral) → IsNumber text n → ⊥
