-- The fault of a text's tokens.
use Rattle.std.specs.Prelude.{◌≡◌, ℕ, Bool, true, false, List, [], ◌∷◌, Option, Some, None, ◌||◌, if◌then◌else◌}
use Rattle.std.specs.Option.{option_or}
use Rattle.xt_lex.specs.declared.class.Class.{Class}
use Rattle.xt_lex.specs.declared.class.Class.TheVariants as classes
use Rattle.xt_lex.specs.declared.fault.LexFault.{LexFault}
use Rattle.xt_lex.specs.declared.fault.LexFault.TheVariants.{Byte, Unended, NoMemory}
use Rattle.xt_lex.specs.declared.rules.Rules.{Rules}
use Rattle.xt_lex.specs.Bytes.{is_foreign, line_after, last_line}
use Rattle.xt_lex.specs.Pieces.{PieceText, pieces_of}

-- comments and quoted strings may hold any byte
abbrev pub may_hold_any : Class → Bool
may_hold_any classes.Text = true
may_hold_any classes.Comment = true
may_hold_any classes.Unclosed = true
may_hold_any _ = false

-- nothing closes the piece before the text ends
abbrev pub is_unclosed : Class → Bool
is_unclosed classes.Unclosed = true
is_unclosed classes.UnclosedPlain = true
is_unclosed _ = false

-- the line of the first foreign byte, where the bytes begin in this line
abbrev pub foreign_line : ℕ → List ℕ → Option ℕ
foreign_line line [] = None
foreign_line line (b ∷ more) = if is_foreign b then Some line else foreign_line (line_after b line) more

-- the line of the first foreign byte outside comments and quoted strings
abbrev pub first_foreign : List PieceText → Option ℕ
first_foreign [] = None
first_foreign (p ∷ ps) =
    if may_hold_any p.class then first_foreign ps else option_or (foreign_line p.line p.text) (first_foreign ps)

-- some piece is not closed
abbrev pub any_unclosed : List PieceText → Bool
any_unclosed [] = false
any_unclosed (p ∷ ps) = is_unclosed p.class || any_unclosed ps

-- a foreign byte is met before an unclosed piece, which is met at the last line
abbrev pub fault_by : Option ℕ → Bool → ℕ → Option LexFault
fault_by (Some line) unclosed last = Some (Byte line)
fault_by None true last = Some (Unended last)
fault_by None false last = None

-- the fault of a text's tokens, if there is one
abbrev pub fault_of : Rules → List ℕ → Option LexFault
fault_of rules bytes =
    fault_by (first_foreign (pieces_of rules bytes)) (any_unclosed (pieces_of rules bytes)) (last_line bytes)

-- the fault that is given is the text's; memory is wanted only where the text has none
abbrev pub IsFault : LexFault → Option LexFault → Type 0
IsFault (Byte line) fault = fault ≡ Some (Byte line)
IsFault (Unended line) fault = fault ≡ Some (Unended line)
IsFault NoMemory fault = fault ≡ None
