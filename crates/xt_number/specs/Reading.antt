-- The parts of a text, from left to right.
use Rattle.std.specs.Prelude.{◌≡◌, ℕ, nat_lt, ◌==◌, Bool, true, false, not, ◌&&◌, ◌||◌, if◌then◌else◌}
use Rattle.std.specs.Prelude.{List, [], ◌∷◌, length, drop, Option, Some, None}
use Rattle.std.specs.List.{prefix_len, take_while, list_all}
use Rattle.std.specs.Char.{is_ascii_digit}
use Rattle.xt_model.specs.Options.{◌>>=◌}
use Rattle.xt_number.specs.Numeral.{Numeral}

-- What a function returned, seen by view, is what reading gives.
abbrev pub Gives : {X Y : Type 0} → (X → Y) → Option X → Option Y → Type 0
Gives view (Some x) read = read ≡ Some (view x)
Gives view None read = read ≡ None

-- whether a `-` stands in front, and the bytes behind the sign
unfoldable pub signed_at : List ℕ → Bool × List ℕ
signed_at [] = (false, [])
signed_at (b ∷ bs) = if b == 45 then (true, bs) else if b == 43 then (false, bs) else (false, b ∷ bs)

-- the digits in front, and the bytes behind them
abbrev pub digits_at : List ℕ → List ℕ × List ℕ
digits_at bs = (take_while is_ascii_digit bs, drop (prefix_len is_ascii_digit bs) bs)

-- the digits behind a point in front, and the bytes behind them; nothing where the point has no digit behind it
unfoldable pub fraction_at : List ℕ → Option (List ℕ × List ℕ)
fraction_at [] = Some ([], [])
fraction_at (b ∷ bs) =
    if b == 46 then (if nat_lt 0 (prefix_len is_ascii_digit bs) then Some (digits_at bs) else None)
    else Some ([], b ∷ bs)

-- one digit or more, and nothing else
abbrev pub is_numeral : List ℕ → Bool
is_numeral bs = not (length bs == 0) && list_all is_ascii_digit bs

-- the sign and the digits of the exponent that the bytes are; nothing where they are none
unfoldable pub exponent_at : List ℕ → Option (Bool × List ℕ)
exponent_at [] = Some (false, [])
exponent_at (b ∷ bs) =
    if b == 101 || b == 69 then (if is_numeral (signed_at bs).1 then Some (signed_at bs) else None) else None

-- a digit stands before the exponent
abbrev pub has_digit : Numeral → Bool
has_digit n = not (length n.whole == 0 && length n.fraction == 0)

-- the parts, if they have a digit before the exponent
abbrev pub with_digit : Numeral → Option Numeral
with_digit n = if has_digit n then Some n else None

-- the parts of the text, or nothing where it is no number
unfoldable pub numeral_of : List ℕ → Option Numeral
numeral_of text = do
  fraction ← fraction_at (digits_at (signed_at text).1).1
  exponent ← exponent_at fraction.1
  with_digit (record {
    negative = (signed_at text).0;
    whole = (digits_at (signed_at text).1).0;
    fraction = fraction.0;
    exponent_negative = exponent.0;
    exponent = exponent.1;
  })
