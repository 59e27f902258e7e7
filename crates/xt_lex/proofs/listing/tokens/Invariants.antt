use Rattle.std.proofs.Common.{◌≡◌, ◌++◌, map, length}
use Rattle.xt_lex.specs.Tokens.{token_of, tokens_of}
use Rattle.xt_lex.proofs.listing.tokens.Given as goal

abbrev pub invariant-tokens : goal.invariant-tokens
invariant-tokens l = l.list.items ++ map token_of l.lexemes ≡ tokens_of l.fn.rules l.bytes

abbrev pub decreases-tokens : goal.decreases-tokens
decreases-tokens l = length l.lexemes
