-- What the words of a command line say: numbers, and three numbers joined by commas.
use Rattle.std.specs.Prelude.{ℕ, ◌==◌, ◌^◌, nat_le, nat_lt, Bool, ◌&&◌, if◌then◌else◌, length}
use Rattle.std.specs.Prelude.{Option, Some, None, codes, option_map}
use Rattle.std.specs.Char.{is_ascii_digit}
use Rattle.std.specs.Option.{option_map_or}
use Rattle.std.specs.List.{list_all, list_any, before_first, after_first}
use Rattle.std.specs.Str.{bytes_eq}
use Rattle.std.specs.Str.Parse.{digits_value}
use Rattle.xt_model.specs.Limits.{most_generated, most_workers}
use Rattle.xt_model.specs.Miller.{MillerNumbers, miller_of}
use Rattle.xt_model.specs.Options.{◌>>=◌}
use Rattle.command_grammar.specs.Grammar.{Text}
use Rattle.command_line.specs.declared.values.Engine.{Engine}
use Rattle.command_line.specs.declared.values.Engine.TheVariants.{Rounds, Marks}

-- one to twenty digits
abbrev pub is_number : Text → Bool
is_number text = nat_lt 0 (length text) && (nat_le (length text) 20 && list_all is_ascii_digit text)

-- the number that they write, where it has at most that many bits
abbrev pub number_of : ℕ → Text → Option ℕ
number_of bits text =
    if is_number text && nat_lt (digits_value 10 text) (2 ^ bits) then Some (digits_value 10 text) else None

-- the number from the one to the other that they write
abbrev pub number_within : ℕ → ℕ → Text → Option ℕ
number_within least most text = do
  n ← number_of 64 text
  if nat_le least n && nat_le n most then Some n else None

-- how many workers, from 1 to 64
abbrev pub worker_count : Text → Option ℕ
worker_count text = number_within 1 most_workers text

-- how many nets, from 1 to 100,000
abbrev pub net_count : Text → Option ℕ
net_count text = number_within 1 most_generated text

-- the engine that the word names
abbrev pub engine : Text → Option Engine
engine word =
    if bytes_eq word (codes "rounds") then Some Rounds
    else if bytes_eq word (codes "marks") then Some Marks else None

abbrev pub is_comma : ℕ → Bool
is_comma b = b == 44

-- what comes before the first comma, and what comes after it
abbrev pub cut : Text → Option (Text × Text)
cut text = if list_any is_comma text then Some (before_first is_comma text, after_first is_comma text) else None

-- the three numbers that are joined by commas
abbrev pub three_of : Text → Option (ℕ × ℕ × ℕ)
three_of text = do
  first ← cut text
  second ← cut first.1
  low ← number_of 64 first.0
  mid ← number_of 64 second.0
  high ← number_of 64 second.1
  Some (low, mid, high)

-- three Miller numbers, in quarters
abbrev pub miller_numbers : Text → Option MillerNumbers
miller_numbers text = three_of text >>= miller_of

-- what the word says, where one is given, and else this
abbrev pub said_or : {T : Type 0} → T → (Text → Option T) → Option Text → Option T
said_or default says word = option_map_or says word (Some default)

-- what the word says, if one is given
abbrev pub if_said : {T : Type 0} → (Text → Option T) → Option Text → Option (Option T)
if_said says word = said_or None (λ text. option_map Some (says text)) word
