-- The pieces of an SDC text.
use Rattle.std.specs.Prelude.{ℕ, ◌+◌, Bool, true, false, not, ◌&&◌, ◌||◌, List, [], ◌∷◌, length, ◌==◌, if◌then◌else◌}
use Rattle.std.specs.List.{prefix_len}
use Rattle.std.specs.Char.{is_ascii_graphic}
use Rattle.xt_lex.specs.declared.class.Class.TheVariants as classes
use Rattle.xt_lex.specs.declared.front.Front.{Front}
use Rattle.xt_lex.specs.Bytes.{is_newline, is_blank, joins_lines}
use Rattle.xt_lex.specs.Runs.{past_byte}
use Rattle.xt_lex.specs.Fronts.{piece, enclosed}

-- up to the end of the line, where `joined` says that a backslash stands before the first byte, so that a newline
-- there does not end it
abbrev pub to_command_line_end : Bool → List ℕ → ℕ
to_command_line_end joined [] = 0
to_command_line_end joined (b ∷ more) = if is_newline b && not joined then 0 else to_command_line_end (b == 92) more + 1

-- no bare word goes on at such a byte: white space and other bytes that are not printable, `;`, a backslash that joins
-- two lines, and a `]` that closes no `[` of the word
abbrev pub ends_bare_word : Bool → ℕ → List ℕ → Bool
ends_bare_word in_bit b more =
    not (is_ascii_graphic b) || (b == 59 || (joins_lines b more || not in_bit && b == 93))

-- behind a `[` of the word a `]` is awaited
abbrev pub in_bit_after : Bool → ℕ → Bool
in_bit_after true b = not (b == 93)
in_bit_after false b = b == 91

-- the bytes of a bare word, where `in_bit` says that a `[` of the word stands open
abbrev pub bare_word : Bool → List ℕ → ℕ
bare_word in_bit [] = 0
bare_word in_bit (b ∷ more) = if ends_bare_word in_bit b more then 0 else bare_word (in_bit_after in_bit b) more + 1

-- white space within a line leaves it open whether a command begins
abbrev pub blank : Bool → ℕ → Front
blank fresh inner = record { class = classes.Blank; inner = inner; fresh = fresh }

-- the piece at the front of an SDC text, where `fresh` says that a command begins there or behind blanks
unfoldable pub sdc_front : Bool → ℕ → List ℕ → Front
sdc_front fresh b more =
    if is_newline b || b == 59 then record { class = classes.Break; inner = 0; fresh = true }
    else if is_blank b then blank fresh (prefix_len is_blank more)
    else if joins_lines b more then blank fresh 1
    else if not (is_ascii_graphic b) then piece classes.Foreign 0
    else if fresh && b == 35 then piece classes.Comment (to_command_line_end false more)
    else if b == 34 then enclosed classes.Text classes.Unclosed 0 (past_byte 34 more) (length more)
    else if b == 123 then enclosed classes.Escaped classes.UnclosedPlain 0 (past_byte 125 more) (length more)
    else if b == 91 || b == 93 then piece classes.Mark 0
    else piece classes.Word (bare_word false more)
