-- What the values of the code stand for.
use Rattle.xt_lex.specs.declared.pieces.Piece.{Piece}
use Rattle.xt_lex.specs.declared.token_texts.Lexeme.{Lexeme}
use Rattle.xt_lex.specs.Pieces.{PieceText}
use Rattle.xt_lex.specs.Tokens.{TokenText}

-- a piece with its bytes
abbrev pub piece_of : Piece → PieceText
piece_of p = record { class = p.class; text = p.text.now; from = p.from; line = p.line }

-- a token with its bytes
abbrev pub text_of : Lexeme → TokenText
text_of t = record { kind = t.kind; text = t.text.now; from = t.from; line = t.line }
