-- Bytes and lines.
use Rattle.std.specs.Prelude.{ℕ, ◌+◌, Bool, false, not, ◌&&◌, ◌||◌, List, [], ◌∷◌, ◌==◌, if◌then◌else◌}
use Rattle.std.specs.Char.{is_ascii_graphic}

-- a line ends with a newline byte
abbrev pub is_newline : ℕ → Bool
is_newline b = b == 10

-- space, tab and carriage return: white space within a line
abbrev pub is_blank : ℕ → Bool
is_blank b = b == 32 || (b == 9 || b == 13)

-- white space: a blank or a newline
abbrev pub is_white : ℕ → Bool
is_white b = is_blank b || is_newline b

-- neither printable ASCII nor white space: such a byte may stand only in comments and quoted strings
abbrev pub is_foreign : ℕ → Bool
is_foreign b = not (is_ascii_graphic b) && not (is_white b)

-- the bytes begin with this one
abbrev pub begins : ℕ → List ℕ → Bool
begins a [] = false
begins a (b ∷ more) = b == a

-- `/*` opens a comment
abbrev pub opens_comment : ℕ → List ℕ → Bool
opens_comment b more = b == 47 && begins 42 more

-- a backslash before a newline joins two lines
abbrev pub joins_lines : ℕ → List ℕ → Bool
joins_lines b more = b == 92 && begins 10 more

-- the line behind a byte of this line
abbrev pub line_after : ℕ → ℕ → ℕ
line_after b line = if is_newline b then line + 1 else line

-- the line behind bytes that begin in this line
abbrev pub line_behind : List ℕ → ℕ → ℕ
line_behind [] line = line
line_behind (b ∷ more) line = line_behind more (line_after b line)

-- the last line of a text: one more than its newline bytes
abbrev pub last_line : List ℕ → ℕ
last_line bytes = line_behind bytes 1
