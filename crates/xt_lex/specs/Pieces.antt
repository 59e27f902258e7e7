-- A text cut into pieces: where a piece ended, the one that stands there is the next.
use Rattle.std.specs.Prelude.{ℕ, zero, suc, ◌+◌, Bool, true, false, List, [], ◌∷◌, take}
use Rattle.xt_lex.specs.declared.class.Class.{Class}
use Rattle.xt_lex.specs.declared.class.Class.TheVariants as classes
use Rattle.xt_lex.specs.declared.front.Front.{Front}
use Rattle.xt_lex.specs.declared.rules.Rules.{Rules}
use Rattle.xt_lex.specs.declared.rules.Rules.TheVariants.{Liberty, Verilog, Spef, Sdc}
use Rattle.xt_lex.specs.Bytes.{line_after}
use Rattle.xt_lex.specs.Liberty.{liberty_front}
use Rattle.xt_lex.specs.Verilog.{verilog_front}
use Rattle.xt_lex.specs.Spef.{spef_front}
use Rattle.xt_lex.specs.Sdc.{sdc_front}

-- the piece at the front by these rules
unfoldable pub front_of : Rules → Bool → ℕ → List ℕ → Front
front_of Liberty fresh b more = liberty_front b more
front_of Verilog fresh b more = verilog_front fresh b more
front_of Spef fresh b more = spef_front b more
front_of Sdc fresh b more = sdc_front fresh b more

-- words and marks, within which no line ends
abbrev pub is_inline : Class → Bool
is_inline classes.Word = true
is_inline classes.Mark = true
is_inline _ = false

-- a piece: what it is, its bytes, and the place and the line of its first byte
pub record PieceText : Type 0 where
  pub class : Class
  pub text : List ℕ
  pub from : ℕ
  pub line : ℕ

-- the piece of this front that begins with a byte
abbrev pub piece_at : Front → ℕ → ℕ → ℕ → List ℕ → PieceText
piece_at front from line b more =
    record { class = front.class; text = b ∷ take front.inner more; from = from; line = line }

-- the pieces of some bytes whose first `inside` belong to a piece before them
abbrev pub pieces_from : Rules → Bool → ℕ → ℕ → ℕ → List ℕ → List PieceText
pieces_from rules fresh inside from line [] = []
pieces_from rules fresh (suc inside) from line (b ∷ more) =
    pieces_from rules fresh inside (from + 1) (line_after b line) more
pieces_from rules fresh zero from line (b ∷ more) =
    piece_at (front_of rules fresh b more) from line b more
    ∷ pieces_from rules (front_of rules fresh b more).fresh (front_of rules fresh b more).inner
    (from + 1) (line_after b line) more

-- the pieces of a text, whose start begins a line and a command
abbrev pub pieces_of : Rules → List ℕ → List PieceText
pieces_of rules bytes = pieces_from rules true 0 0 1 bytes
