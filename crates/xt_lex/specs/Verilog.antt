-- The pieces of a Verilog text.
use Rattle.std.specs.Prelude.{ℕ, Bool, true, false, not, ◌&&◌, ◌||◌, List, ◌∷◌, length, drop, ◌==◌, if◌then◌else◌}
use Rattle.std.specs.List.{prefix_len}
use Rattle.std.specs.Char.{is_ascii_graphic, is_ascii_alphabetic, is_ascii_alphanumeric, is_ascii_digit}
use Rattle.xt_lex.specs.declared.class.Class.TheVariants as classes
use Rattle.xt_lex.specs.declared.front.Front.{Front}
use Rattle.xt_lex.specs.Bytes.{is_newline, is_blank, begins, opens_comment}
use Rattle.xt_lex.specs.Runs.{past_pair}
use Rattle.xt_lex.specs.Fronts.{piece, enclosed, block_comment, to_line_end}

-- an identifier begins with a letter or `_`
abbrev pub begins_name : ℕ → Bool
begins_name b = is_ascii_alphabetic b || b == 95

-- and goes on with letters, digits, `_` and `$`
abbrev pub is_in_name : ℕ → Bool
is_in_name b = is_ascii_alphanumeric b || (b == 95 || b == 36)

-- `b`, `h`, `d` or `o` in either case
abbrev pub is_base : ℕ → Bool
is_base b = b == 98 || (b == 104 || (b == 100 || (b == 111 || (b == 66 || (b == 72 || (b == 68 || b == 79))))))

-- what stands behind the `1` of a constant: `'`, a base, and `0` or `1`
abbrev pub is_constant : List ℕ → Bool
is_constant (quote ∷ base ∷ digit ∷ more) = quote == 39 && (is_base base && (digit == 48 || digit == 49))
is_constant _ = false

-- from `(*` up to the first `*)` behind it, where `more` begins at the `*`
abbrev pub attribute : List ℕ → Front
attribute more = enclosed classes.Skipped classes.UnclosedPlain 1 (past_pair 42 41 (drop 1 more)) (length more)

-- the piece at the front of a Verilog text, where `fresh` says that a line begins there
unfoldable pub verilog_front : Bool → ℕ → List ℕ → Front
verilog_front fresh b more =
    if is_newline b then record { class = classes.Blank; inner = 0; fresh = true }
    else if is_blank b then piece classes.Blank (prefix_len is_blank more)
    else if not (is_ascii_graphic b) then piece classes.Foreign 0
    else if begins_name b then piece classes.Word (prefix_len is_in_name more)
    else if b == 49 && is_constant more then piece classes.Word 3
    else if is_ascii_digit b then piece classes.Word (prefix_len is_ascii_digit more)
    else if b == 92 then piece classes.Escaped (prefix_len is_ascii_graphic more)
    else if b == 47 && begins 47 more then piece classes.Comment (to_line_end more)
    else if opens_comment b more then block_comment more
    else if b == 40 && begins 42 more then attribute more
    else if fresh && b == 96 then piece classes.Skipped (to_line_end more)
    else piece classes.Mark 0
