-- The words of a SPEF text have printable bytes alone.
use Rattle.std.specs.Prelude.{◌≡◌, ℕ, zero, suc, ◌+◌, Bool, true, not, ◌&&◌, ◌==◌, List, [], ◌∷◌, take, Option, Some, None}
use Rattle.std.specs.Char.{is_ascii_graphic}
use Rattle.std.specs.List.{AllByRecursion}
use Rattle.std.proofs.lemmas.Bool.{cond_both, not-false, false≢true}
use Rattle.text_forms.specs.Forms.{Token}
use Rattle.text_forms.specs.Tokens.{token_by}
use Rattle.text_forms.proofs.Kept.{each_token}
use Rattle.xt_lex.specs.declared.class.Class.TheVariants as classes
use Rattle.xt_lex.specs.declared.front.Front.{Front}
use Rattle.xt_lex.specs.declared.token.Kind.{Kind}
use Rattle.xt_lex.specs.declared.token.Kind.TheVariants as kinds
use Rattle.xt_lex.specs.declared.rules.Rules.TheVariants.{Spef}
use Rattle.xt_lex.specs.Bytes.{is_white, begins, opens_comment, last_line, line_after}
use Rattle.xt_lex.specs.Fronts.{enclosed, block_comment}
use Rattle.xt_lex.specs.Spef.{spef_front}
use Rattle.xt_lex.specs.Pieces.{PieceText, front_of, pieces_from}
use Rattle.xt_lex.specs.Tokens.{TokenText, kind_of, with_kind, tokens_among, token_texts}
use Rattle.spef_read.specs.declared.sort.Sort.{Sort}
use Rattle.spef_read.specs.declared.sort.Sort.TheVariants as sorts
use Rattle.spef_read.specs.Sorts.{sort_by, spef_tokens}
use Rattle.spef_read.specs.Forms.{is_word}
use Rattle.text_forms.proofs.Bytes.{AreGraphic, IsGraphic, each-drop, each-weaker, front_passes}

-- the bytes of a token that is no string are printable
abbrev AreFine : Option Kind → List ℕ → Type 0
AreFine None bytes = Unit {0}
AreFine (Some kinds.Text) bytes = Unit {0}
AreFine (Some _) bytes = AreGraphic bytes

module _ (b : ℕ) (more : List ℕ) where
  abbrev FineFront : Front → Type 0
  FineFront f = AreFine (kind_of f.class) (b ∷ take f.inner more)

  string_fine : (o : Option ℕ) (rest : ℕ) → FineFront (enclosed classes.Text classes.Unclosed 0 o rest)
  string_fine None rest = tt
  string_fine (Some n) rest = tt

  comment_fine : (o : Option ℕ) (rest : ℕ) → FineFront (enclosed classes.Comment classes.Unclosed 1 o rest)
  comment_fine None rest = tt
  comment_fine (Some n) rest = tt

  front_fine : FineFront (spef_front b more)
  unfolding spef_front
  front_fine =
      cond_both (is_white b) _ _ FineFront (λ e. tt) (λ e.
      cond_both (not (is_ascii_graphic b)) _ _ FineFront (λ e. tt) (λ no.
      cond_both (b == 47 && begins 47 more) _ _ FineFront (λ e. tt) (λ e.
      cond_both (opens_comment b more) (block_comment more) _ FineFront (λ e. comment_fine _ _) (λ e.
      cond_both (b == 34) _ _ FineFront (λ e. string_fine _ _)
      (λ e. (not-false (is_ascii_graphic b) no, front_passes is_ascii_graphic more))))))

abbrev FinePiece : PieceText → Type 0
FinePiece p = AreFine (kind_of p.class) p.text

pieces_fine : (fresh : Bool) (inside from line : ℕ) (bytes : List ℕ) → AllByRecursion FinePiece (pieces_from Spef fresh inside from line bytes)
unfolding front_of
pieces_fine fresh inside from line [] = tt
pieces_fine fresh (suc inside) from line (b ∷ more) = pieces_fine fresh inside (from + 1) (line_after b line) more
pieces_fine fresh zero from line (b ∷ more) =
    (front_fine b more, pieces_fine (spef_front b more).fresh (spef_front b more).inner (from + 1) (line_after b line) more)

abbrev FineToken : TokenText → Type 0
FineToken t = AreFine (Some t.kind) t.text

kind_fine : (o : Option Kind) (p : PieceText) (ts : List TokenText) → AreFine o p.text → AllByRecursion FineToken ts
    → AllByRecursion FineToken (with_kind o p ts)
kind_fine None p ts h each = each
kind_fine (Some kind) p ts h each = (h, each)

tokens_fine : (ps : List PieceText) → AllByRecursion FinePiece ps → AllByRecursion FineToken (tokens_among ps)
tokens_fine [] each = tt
tokens_fine (p ∷ ps) each = kind_fine (kind_of p.class) p (tokens_among ps) each.0 (tokens_fine ps each.1)

-- a word of a text has printable bytes
abbrev pub IsPrintable : Token Sort → Type 0
IsPrintable t = is_word t.sort ≡ true → AreGraphic t.text

sorted_fine : (kind : Kind) (t : TokenText) → AreFine (Some kind) t.text → IsPrintable (token_by sort_by sorts.End kind t)
sorted_fine kinds.Text t h w = absurd (false≢true w)
sorted_fine kinds.Escaped t h w = each-drop IsGraphic 1 t.text h
sorted_fine kinds.Word t h w = h
sorted_fine kinds.Mark t h w = h
sorted_fine kinds.Break t h w = h

pub words_printable : (bytes : List ℕ) → AllByRecursion IsPrintable (spef_tokens bytes)
words_printable bytes =
    let fine = tokens_fine _ (pieces_fine true 0 0 1 bytes) in
    let each = each-weaker FineToken (λ t. IsPrintable (token_by sort_by sorts.End t.kind t)) (λ t. sorted_fine t.kind t) (token_texts Spef bytes) fine in
    each_token sort_by sorts.End IsPrintable (last_line bytes) (token_texts Spef bytes) (λ w. absurd (false≢true w)) each
