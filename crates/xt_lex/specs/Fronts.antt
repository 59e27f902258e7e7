-- The piece that stands at the front of some bytes. A Front has its class, how many bytes it has behind its first
-- one, and whether a line of Verilog or a command of SDC begins where it ends.
use Rattle.std.specs.Prelude.{ℕ, ◌+◌, false, List, length, drop, Option, Some, None}
use Rattle.std.specs.List.{position_or_len}
use Rattle.xt_lex.specs.declared.class.Class.{Class}
use Rattle.xt_lex.specs.declared.class.Class.TheVariants as classes
use Rattle.xt_lex.specs.declared.front.Front.{Front}
use Rattle.xt_lex.specs.Bytes.{is_newline}
use Rattle.xt_lex.specs.Runs.{past_pair}

-- a piece of this class with so many bytes behind its first one
abbrev pub piece : Class → ℕ → Front
piece class inner = record { class = class; inner = inner; fresh = false }

-- a piece of one class that ends so many bytes behind its opening, or one of the other class up to the end of the
-- text where nothing closes it
abbrev pub enclosed : Class → Class → ℕ → Option ℕ → ℕ → Front
enclosed ended running opening (Some n) rest = piece ended (opening + n)
enclosed ended running opening None rest = piece running rest

-- from `/*` up to the first `*/` behind it, where `more` begins at the `*`
abbrev pub block_comment : List ℕ → Front
block_comment more = enclosed classes.Comment classes.Unclosed 1 (past_pair 42 47 (drop 1 more)) (length more)

-- up to the line's end
abbrev pub to_line_end : List ℕ → ℕ
to_line_end more = position_or_len is_newline more
