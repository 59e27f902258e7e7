-- The fields of a line: words, names and numbers.
use Rattle.std.specs.Prelude.{◌≡◌, ℕ, ◌+◌, ◌^◌, nat_lt, nat_le, ◌==◌, ℤ, pos, neg_ℤ, int_le, int_lt}
use Rattle.std.specs.Prelude.{Bool, true, false, not, ◌&&◌, ◌||◌, if◌then◌else◌, List, [], ◌∷◌, length, take, drop}
use Rattle.std.specs.Prelude.{position, codes, Option, Some, None}
use Rattle.std.specs.Char.{is_ascii_digit}
use Rattle.std.specs.Fmt.{decimal}
use Rattle.std.specs.List.{list_all, slice_split}
use Rattle.std.specs.Option.{option_map}
use Rattle.std.specs.Str.{bytes_eq}
use Rattle.std.specs.Str.Parse.{digits_value}
use Rattle.xt_model.specs.declared.edge.Edge.{Edge}
use Rattle.xt_model.specs.declared.edge.Edge.TheVariants.{Rise, Fall}
use Rattle.xt_model.specs.Limits.{most_time, most_slew, most_cap, most_product, most_delay, most_period, most_in_table}
use Rattle.xt_model.specs.Limits.{most_lines, most_name}
use Rattle.text_lines.specs.Lines.{Line}
use Rattle.xt_model.specs.Options.{◌>>=◌}

-- what a function found, seen by view, is what the definition gives
abbrev pub Finds : {X Y : Type 0} → (X → Y) → Option X → Option Y → Type 0
Finds view (Some x) found = found ≡ Some (view x)
Finds view None found = found ≡ None

-- ---- lines and their fields

-- the bytes before the first mark and those behind it
unfoldable pub cut_at : ℕ → List ℕ → Option (List ℕ × List ℕ)
cut_at mark bytes = do
  i ← position (λ b. b == mark) bytes
  Some (take i bytes, drop (i + 1) bytes)

-- a line is split at each of its spaces
abbrev pub fields_of : List ℕ → Line
fields_of line = slice_split (λ b. b == 32) line

-- the fields of a line that has so many
abbrev pub one : Line → Option (List ℕ)
one (a ∷ []) = Some a
one line = None

abbrev pub two : Line → Option (List ℕ × List ℕ)
two (a ∷ b ∷ []) = Some (a, b)
two line = None

abbrev pub three : Line → Option (List ℕ × List ℕ × List ℕ)
three (a ∷ b ∷ c ∷ []) = Some (a, b, c)
three line = None

abbrev pub four : Line → Option (List ℕ × List ℕ × List ℕ × List ℕ)
four (a ∷ b ∷ c ∷ d ∷ []) = Some (a, b, c, d)
four line = None

abbrev pub five : Line → Option (List ℕ × List ℕ × List ℕ × List ℕ × List ℕ)
five (a ∷ b ∷ c ∷ d ∷ e ∷ []) = Some (a, b, c, d, e)
five line = None

abbrev pub seven : Line → Option (List ℕ × List ℕ × List ℕ × List ℕ × List ℕ × List ℕ × List ℕ)
seven (a ∷ b ∷ c ∷ d ∷ e ∷ f ∷ g ∷ []) = Some (a, b, c, d, e, f, g)
seven line = None

abbrev pub nine : Line → Option (List ℕ × List ℕ × List ℕ × List ℕ × List ℕ × List ℕ × List ℕ × List ℕ × List ℕ)
nine (a ∷ b ∷ c ∷ d ∷ e ∷ f ∷ g ∷ h ∷ i ∷ []) = Some (a, b, c, d, e, f, g, h, i)
nine line = None

-- ---- numbers

-- the number below the limit that is written so
abbrev pub number_of : ℕ → List ℕ → Option ℕ
number_of limit bytes =
    let n = digits_value 10 bytes in
    if nat_lt n limit && bytes_eq (decimal n) bytes then Some n else None

-- zero has no sign
abbrev pub negative_of : ℕ → Option ℤ
negative_of n = if n == 0 then None else Some (neg_ℤ (pos n))

-- the number of a size below the limit that is written so
abbrev pub signed_of : ℕ → List ℕ → Option ℤ
signed_of limit [] = None
signed_of limit (b ∷ more) =
    if b == 45 then number_of limit more >>= negative_of else number_of limit (b ∷ more) >>= λ n. Some (pos n)

-- the number from low to high that is written so
unfoldable pub between : ℤ → ℤ → List ℕ → Option ℤ
between low high f = do
  x ← signed_of (2 ^ 127) f
  if int_le low x && int_le x high then Some x else None

-- a count or a reference
abbrev pub count : List ℕ → Option ℕ
count f = number_of (2 ^ 32) f

-- a number of rows or columns
unfoldable pub size : List ℕ → Option ℕ
size f = do
  n ← number_of (most_lines + 1) f
  if nat_le 1 n then Some n else None

abbrev pub in_table : List ℕ → Option ℤ
in_table f = between (neg_ℤ most_in_table) most_in_table f

abbrev pub time : List ℕ → Option ℤ
time f = between (neg_ℤ most_time) most_time f

abbrev pub slew : List ℕ → Option ℤ
slew f = between (pos 0) most_slew f

abbrev pub cap : List ℕ → Option ℤ
cap f = between (pos 0) most_cap f

abbrev pub product : List ℕ → Option ℤ
product f = between (pos 0) most_product f

abbrev pub period : List ℕ → Option ℤ
period f = between (pos 1) most_period f

abbrev pub delay : List ℕ → Option ℤ
delay f = between (neg_ℤ most_delay) most_delay f

-- the value of each field
abbrev pub each : {A : Type 0} → (List ℕ → Option A) → Line → Option (List A)
each of [] = Some []
each of (f ∷ fs) = of f >>= λ x. each of fs >>= λ xs. Some (x ∷ xs)

-- digits, of which the first of several is no 0
abbrev pub is_numeral : List ℕ → Bool
is_numeral [] = false
is_numeral (b ∷ more) = list_all is_ascii_digit (b ∷ more) && (not (b == 48) || length more == 0)

-- a whole number of any size as it has to be written: only a number below 0 has a sign
abbrev pub is_canonical : List ℕ → Bool
is_canonical [] = false
is_canonical (b ∷ more) =
    if b == 45 then is_numeral more && not (bytes_eq more (codes "0")) else is_numeral (b ∷ more)

-- ---- names, edges and order

-- 1 to 2,049 printable bytes
abbrev pub is_name : List ℕ → Bool
is_name bytes =
    nat_lt 0 (length bytes) && (nat_le (length bytes) most_name && list_all (λ b. nat_le 33 b && nat_le b 126) bytes)

-- the edge of this word
abbrev pub edge_of : List ℕ → Option Edge
edge_of f =
    if bytes_eq f (codes "rise") then Some Rise else (if bytes_eq f (codes "fall") then Some Fall else None)

-- whether it is an input port
abbrev pub kind_of : List ℕ → Option Bool
kind_of f = if bytes_eq f (codes "i") then Some true else (if bytes_eq f (codes "w") then Some false else None)

-- whether it is a hold check
abbrev pub hold_of : List ℕ → Option Bool
hold_of f = if bytes_eq f (codes "hold") then Some true else (if bytes_eq f (codes "setup") then Some false else None)

-- what a field has, or a dash for nothing
abbrev pub or_dash : {A : Type 0} → (List ℕ → Option A) → List ℕ → Option (Option A)
or_dash of f = if bytes_eq f (codes "-") then Some None else option_map Some (of f)

-- each number is above the one before it, and the first above `last`
abbrev pub rises_from : ℤ → List ℤ → Bool
rises_from last [] = true
rises_from last (x ∷ xs) = int_lt last x && rises_from x xs

abbrev pub is_rising : List ℤ → Bool
is_rising [] = true
is_rising (x ∷ xs) = rises_from x xs
