-- What the words of a SPEF text may be besides its keywords.
use Rattle.std.specs.Prelude.{ℕ, Bool, false, not, ◌&&◌, ◌||◌, ◌==◌, List, [], ◌∷◌, length, take, drop, is_some}
use Rattle.std.specs.Prelude.{codes}
use Rattle.std.specs.Char.{is_ascii_digit}
use Rattle.std.specs.List.{list_all, prefix_len}
use Rattle.std.specs.Str.{bytes_eq}
use Rattle.xt_number.specs.Reading.{numeral_of}

abbrev pub Text : Type 0
Text = List ℕ

-- one digit or more, and nothing else
abbrev pub are_digits : Text → Bool
are_digits word = not (length word == 0) && list_all is_ascii_digit word

-- a number
abbrev pub is_number : Text → Bool
is_number word = is_some (numeral_of word)

-- how many bytes stand before the first one that is this
abbrev pub place_of : ℕ → Text → ℕ
place_of mark word = prefix_len (λ b. not (b == mark)) word

-- the bytes before the first one that is this
abbrev pub before : ℕ → Text → Text
before mark word = take (place_of mark word) word

-- the bytes from the first one that is this on
abbrev pub from_mark : ℕ → Text → Text
from_mark mark word = drop (place_of mark word) word

-- two numbers with a colon between them, from the colon on
abbrev pub pair_by : Text → Text → Bool
pair_by first [] = false
pair_by first (colon ∷ last) = is_number first && is_number last

-- two numbers with a colon between them
abbrev pub is_pair : Text → Bool
is_pair word = pair_by (before 58 word) (from_mark 58 word)

abbrev pub value_by : Text → Text → Text → Bool
value_by word first [] = is_number word
value_by word first (colon ∷ more) = is_number first && is_pair more

-- the form of a value: a number, or three numbers with colons between them
abbrev pub is_value : Text → Bool
is_value word = value_by word (before 58 word) (from_mark 58 word)

abbrev pub counted_by : Text → Text → Text
counted_by word [] = word
counted_by word (colon ∷ more) = before 58 more

-- the number of a value that counts: of three the middle one
abbrev pub counted : Text → Text
counted word = counted_by word (from_mark 58 word)

-- the left bracket of a bus's bit
abbrev pub is_bracket : Text → Bool
is_bracket word = bytes_eq word (codes "[") || (bytes_eq word (codes "<") || bytes_eq word (codes "("))
