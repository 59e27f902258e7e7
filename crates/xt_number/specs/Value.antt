-- What a number is worth.
use Rattle.std.specs.Prelude.{◌≡◌, ℕ, ◌+◌, ◌*◌, ◌/◌, ◌^◌, ◌<◌, ◌≤◌, nat_lt, ◌==◌, ℤ, pos, negsuc, neg_ℤ, ◌+ℤ◌, ◌-ℤ◌}
use Rattle.std.specs.Prelude.{Bool, true, false, not, ◌&&◌, if◌then◌else◌, List, [], ◌∷◌, ◌++◌, length, find}
use Rattle.std.specs.Prelude.{Option, Some, None, Result, Ok, Err}
use Rattle.std.specs.Int.{int_min, int_max}
use Rattle.std.specs.List.{list_all}
use Rattle.std.specs.Str.Parse.{digits_value}
use Rattle.xt_number.specs.declared.fault.NumberFault.{NumberFault}
use Rattle.xt_number.specs.declared.fault.NumberFault.TheVariants as fault
use Rattle.xt_number.specs.Numeral.{Numeral}
use Rattle.xt_number.specs.Reading.{numeral_of}

-- a size with a sign
abbrev pub signed : Bool → ℕ → ℤ
signed true n = neg_ℤ (pos n)
signed false n = pos n

-- all digits before the exponent, as one whole number
abbrev pub mantissa : Numeral → ℕ
mantissa n = digits_value 10 (n.whole ++ n.fraction)

-- the power of ten of the mantissa: without its sign the number is worth mantissa n * 10 ^ exponent n
abbrev pub exponent : Numeral → ℤ
exponent n = signed n.exponent_negative (digits_value 10 n.exponent) -ℤ pos (length n.fraction)

-- digits without the zeros in front of them
abbrev pub without_zeros : List ℕ → List ℕ
without_zeros [] = []
without_zeros (d ∷ ds) = if d == 48 then without_zeros ds else d ∷ ds

-- how many digits stand before the exponent, from the first that is not zero on
abbrev pub digit_count : Numeral → ℕ
digit_count n = length (without_zeros (n.whole ++ n.fraction))

-- m * 10 ^ k, rounded to the nearest whole number and half up: the floor of m / 10 ^ j + 1 / 2 at k = -j
unfoldable pub rounded : ℕ → ℤ → ℕ
rounded m (pos k) = m * 10 ^ k
rounded m (negsuc k) = (2 * m + 10 ^ (k + 1)) / (2 * 10 ^ (k + 1))

-- the number times ten to the scale, rounded half away from zero, without its sign
abbrev pub size : Numeral → ℤ → ℕ
size n scale = rounded (mantissa n) (exponent n +ℤ scale)

-- the number times ten to the scale, rounded half away from zero
abbrev pub scaled : Numeral → ℤ → ℤ
scaled n scale = signed n.negative (size n scale)

-- the scaled number, or the first fault of the three
abbrev pub fixed_from : Option Numeral → ℤ → Result ℤ NumberFault
fixed_from None scale = Err fault.Form
fixed_from (Some n) scale =
    if nat_lt 30 (digit_count n) then Err fault.Digits
    else if nat_lt (2 ^ 40) (size n scale) then Err fault.Range
    else Ok (scaled n scale)

-- what a text means at a scale
unfoldable pub fixed : List ℕ → ℤ → Result ℤ NumberFault
fixed text scale = fixed_from (numeral_of text) scale

-- ten to the power, and 1 where the power is negative
abbrev pub ten_to : ℤ → ℕ
ten_to (pos k) = 10 ^ k
ten_to (negsuc k) = 1

-- the number is 10 ^ k: mantissa * 10 ^ exponent = 10 ^ k, with each power on the side where it is whole
pub record IsTenTo (k : ℤ) (n : Numeral) : Type 0 where
  pub positive : n.negative ≡ false
  pub worth : mantissa n * ten_to (exponent n -ℤ k) ≡ ten_to (k -ℤ exponent n)

-- more than thirty digits, zeros in front not counted
abbrev pub IsTooLong : Numeral → Type 0
IsTooLong n = 30 < digit_count n

-- at most thirty digits, and a size beyond 2 ^ 40 at the scale
abbrev pub IsBeyond : ℤ → Numeral → Type 0
IsBeyond scale n = (digit_count n ≤ 30) × (2 ^ 40 < size n scale)

-- at most thirty digits, and x is the scaled number, of a size up to 2 ^ 40
abbrev pub IsFixed : ℤ → ℤ → Numeral → Type 0
IsFixed scale x n = (digit_count n ≤ 30) × (size n scale ≤ 2 ^ 40) × (x ≡ scaled n scale)

-- whether the number is 10 ^ k
abbrev pub is_ten_to : Numeral → ℤ → Bool
is_ten_to n k = not n.negative && (mantissa n * ten_to (exponent n -ℤ k) == ten_to (k -ℤ exponent n))

-- the powers that a unit may have
abbrev pub unit_powers : List ℤ
unit_powers = neg_ℤ (pos 3) ∷ neg_ℤ (pos 2) ∷ neg_ℤ (pos 1) ∷ pos 0 ∷ pos 1 ∷ pos 2 ∷ pos 3 ∷ []

-- the power of ten from -3 to 3 that the parts are
abbrev pub power_from : Option Numeral → Option ℤ
power_from None = None
power_from (Some n) = find (is_ten_to n) unit_powers

-- the power of ten from -3 to 3 that the text is
unfoldable pub power_of : List ℕ → Option ℤ
power_of text = power_from (numeral_of text)

-- ---- words of the private functions

-- a power of ten, cut at 64 on both sides
abbrev pub clamped : ℤ → ℤ
clamped z = int_max (neg_ℤ (pos 64)) (int_min (pos 64) z)

-- how many digits stand behind a one that is the first, where all of them are zeros
unfoldable pub place_at : List ℕ → Option ℕ
place_at [] = None
place_at (d ∷ ds) = if d == 49 then (if list_all (λ c. c == 48) ds then Some (length ds) else None) else None
