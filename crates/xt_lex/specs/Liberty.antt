-- The pieces of a Liberty text.
use Rattle.std.specs.Prelude.{ℕ, ◌+◌, Bool, true, false, not, ◌||◌, List, [], ◌∷◌, length}
use Rattle.std.specs.Prelude.{Option, Some, None, ◌==◌, if◌then◌else◌}
use Rattle.std.specs.List.{prefix_len}
use Rattle.std.specs.Char.{is_ascii_graphic}
use Rattle.xt_lex.specs.declared.class.Class.TheVariants as classes
use Rattle.xt_lex.specs.declared.front.Front.{Front}
use Rattle.xt_lex.specs.Bytes.{is_white, opens_comment, joins_lines}
use Rattle.xt_lex.specs.Runs.{further}
use Rattle.xt_lex.specs.Fronts.{piece, enclosed, block_comment}

-- `(` `)` `{` `}` `:` `;` and `,`
abbrev pub is_liberty_mark : ℕ → Bool
is_liberty_mark b = b == 40 || (b == 41 || (b == 123 || (b == 125 || (b == 58 || (b == 59 || b == 44)))))

-- up to and with the `"` that ends a string, where `kept` says that a backslash stands before the first byte and
-- keeps it from ending the string
abbrev pub past_quote : Bool → List ℕ → Option ℕ
past_quote kept [] = None
past_quote true (b ∷ more) = further 1 (past_quote false more)
past_quote false (b ∷ more) = if b == 34 then Some 1 else further 1 (past_quote (b == 92) more)

-- no word goes on at such a byte: one that is not printable, a mark, `"`, the start of a comment, a backslash that
-- joins two lines
abbrev pub ends_liberty_word : ℕ → List ℕ → Bool
ends_liberty_word b more =
    not (is_ascii_graphic b)
    || (is_liberty_mark b || (b == 34 || (opens_comment b more || joins_lines b more)))

-- the bytes of a word
abbrev pub liberty_word : List ℕ → ℕ
liberty_word [] = 0
liberty_word (b ∷ more) = if ends_liberty_word b more then 0 else liberty_word more + 1

-- the piece at the front of a Liberty text
unfoldable pub liberty_front : ℕ → List ℕ → Front
liberty_front b more =
    if is_white b then piece classes.Blank (prefix_len is_white more)
    else if joins_lines b more then piece classes.Blank 1
    else if not (is_ascii_graphic b) then piece classes.Foreign 0
    else if opens_comment b more then block_comment more
    else if b == 34 then enclosed classes.Text classes.Unclosed 0 (past_quote false more) (length more)
    else if is_liberty_mark b then piece classes.Mark 0
    else piece classes.Word (liberty_word more)
