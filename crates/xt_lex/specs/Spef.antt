-- The pieces of a SPEF text.
use Rattle.std.specs.Prelude.{ℕ, ◌-◌, nat_lt, Bool, not, ◌&&◌, List, length, slice_index, ◌==◌, if◌then◌else◌}
use Rattle.std.specs.List.{prefix_len}
use Rattle.std.specs.Char.{is_ascii_graphic}
use Rattle.xt_lex.specs.declared.class.Class.TheVariants as classes
use Rattle.xt_lex.specs.declared.front.Front.{Front}
use Rattle.xt_lex.specs.Bytes.{is_white, begins, opens_comment}
use Rattle.xt_lex.specs.Runs.{past_byte}
use Rattle.xt_lex.specs.Fronts.{piece, enclosed, block_comment, to_line_end}

-- the piece at the front of a SPEF text; a word goes up to white space, so comments and strings begin only where a
-- token may begin
unfoldable pub spef_front : ℕ → List ℕ → Front
spef_front b more =
    if is_white b then piece classes.Blank (prefix_len is_white more)
    else if not (is_ascii_graphic b) then piece classes.Foreign 0
    else if b == 47 && begins 47 more then piece classes.Comment (to_line_end more)
    else if opens_comment b more then block_comment more
    else if b == 34 then enclosed classes.Text classes.Unclosed 0 (past_byte 34 more) (length more)
    else piece classes.Word (prefix_len is_ascii_graphic more)

-- the piece at the front, or, where a word goes on, what is left of it
abbrev pub spef_part : Bool → ℕ → List ℕ → Front
spef_part in_word b more = if in_word then piece classes.Word (prefix_len is_ascii_graphic more) else spef_front b more

-- whether a word goes on after this many bytes: the last of them is printable
abbrev pub is_in_word : ℕ → List ℕ → Bool
is_in_word k bytes = nat_lt 0 k && is_ascii_graphic (slice_index bytes (k - 1))
