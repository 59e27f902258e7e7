-- The tokens of a text: its pieces without white space, comments, attributes and directives.
use Rattle.std.specs.Prelude.{◌≡◌, ℕ, ◌+◌, ◌<◌, ◌≤◌, List, [], ◌∷◌, length, map, Option, Some, None}
use Rattle.std.specs.List.{slice_range}
use Rattle.xt_lex.specs.declared.class.Class.{Class}
use Rattle.xt_lex.specs.declared.class.Class.TheVariants as classes
use Rattle.xt_lex.specs.declared.rules.Rules.{Rules}
use Rattle.xt_lex.specs.declared.token.Kind.{Kind}
use Rattle.xt_lex.specs.declared.token.Kind.TheVariants as kinds
use Rattle.xt_lex.specs.declared.token.Token.{Token}
use Rattle.xt_lex.specs.Pieces.{PieceText, pieces_of}

-- the kind of token that a piece of a class is, if it is one
abbrev pub kind_of : Class → Option Kind
kind_of classes.Word = Some kinds.Word
kind_of classes.Text = Some kinds.Text
kind_of classes.Mark = Some kinds.Mark
kind_of classes.Escaped = Some kinds.Escaped
kind_of classes.Break = Some kinds.Break
kind_of _ = None

-- a token: its kind, its bytes, and the place and the line of its first byte
pub record TokenText : Type 0 where
  pub kind : Kind
  pub text : List ℕ
  pub from : ℕ
  pub line : ℕ

-- the piece before the tokens, if it is one
abbrev pub with_kind : Option Kind → PieceText → List TokenText → List TokenText
with_kind (Some kind) p ts = record { kind = kind; text = p.text; from = p.from; line = p.line } ∷ ts
with_kind None p ts = ts

-- the tokens among the pieces
abbrev pub tokens_among : List PieceText → List TokenText
tokens_among [] = []
tokens_among (p ∷ ps) = with_kind (kind_of p.class) p (tokens_among ps)

-- the tokens of a text with their bytes
abbrev pub token_texts : Rules → List ℕ → List TokenText
token_texts rules bytes = tokens_among (pieces_of rules bytes)

-- a token's text is the bytes of its span
abbrev pub IsTextOf : List ℕ → TokenText → Type 0
IsTextOf bytes t = t.text ≡ slice_range bytes t.from (t.from + length t.text)

-- a token without its bytes: it ends behind the last of them
abbrev pub token_of : TokenText → Token
token_of t = record { kind = t.kind; from = t.from; to = t.from + length t.text; line = t.line }

-- the token list of a text
abbrev pub tokens_of : Rules → List ℕ → List Token
tokens_of rules bytes = map token_of (token_texts rules bytes)

-- the spans are in order from one place to another, do not overlap, and none is empty
abbrev pub AreApart : ℕ → List Token → ℕ → Type 0
AreApart from [] to = from ≤ to
AreApart from (t ∷ ts) to = (from ≤ t.from) × (t.from < t.to) × AreApart t.to ts to
