-- The tokens of a text as a grammar sees them: each with its sort, and behind them the end of the text.
use Rattle.std.specs.Prelude.{ℕ, Bool, false, List, [], ◌∷◌, drop, if◌then◌else◌}
use Rattle.text_forms.specs.Forms.{Token}
use Rattle.text_forms.specs.declared.terms.Term.{Term}
use Rattle.xt_lex.specs.Bytes.{last_line}
use Rattle.xt_lex.specs.Tokens.{TokenText, token_texts}
use Rattle.xt_lex.specs.declared.rules.Rules.{Rules}
use Rattle.xt_lex.specs.declared.token.Kind.{Kind}
use Rattle.xt_lex.specs.declared.token.Kind.TheVariants as kinds

-- the bytes that a grammar sees of a token: of an escaped name those behind its backslash
abbrev pub seen_by : Kind → List ℕ → List ℕ
seen_by kinds.Escaped text = drop 1 text
seen_by _ text = text

-- a token with its bytes
abbrev pub token_of : {Sort : Type 0} → Term Sort → Token Sort
token_of t = record { sort = t.sort; text = t.text.now; from = t.from; line = t.line }

module _ {Sort : Type 0} (sort_by : Kind → List ℕ → Sort) (end : Sort) where
  -- a token of a text with its sort
  abbrev pub token_by : Kind → TokenText → Token Sort
  token_by kind t =
      let text = seen_by kind t.text in
      record { sort = sort_by kind text; text = text; from = t.from; line = t.line }

  -- the end of a text, at its last line
  abbrev pub end_at : ℕ → Token Sort
  end_at last = record { sort = end; text = []; from = 0; line = last }

  -- the tokens of a text, and behind them its end, unless that was read
  abbrev pub tokens_to_end : Bool → ℕ → List TokenText → List (Token Sort)
  tokens_to_end ended last [] = if ended then [] else end_at last ∷ []
  tokens_to_end ended last (t ∷ ts) = token_by t.kind t ∷ tokens_to_end ended last ts

  -- the tokens of a whole text and its end
  abbrev pub sorted_tokens : Rules → List ℕ → List (Token Sort)
  sorted_tokens rules bytes = tokens_to_end false (last_line bytes) (token_texts rules bytes)
