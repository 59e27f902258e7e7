use Rattle.std.proofs.Common.{◌≡◌, length}
use Rattle.xt_lex.specs.Tokens.{tokens_among}
use Rattle.xt_lex.proofs.token_texts.Lexemes.next_token.Given as goal

abbrev pub invariant-pieces : goal.invariant-pieces
invariant-pieces l = tokens_among l.self-inside.pieces ≡ tokens_among l.initial.self-inside.pieces

abbrev pub decreases-pieces : goal.decreases-pieces
decreases-pieces l = length l.self-inside.pieces
