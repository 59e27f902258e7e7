-- Where tokens stand.
use Rattle.std.proofs.Common.{◌≡◌, ℕ, zero, suc, ◌+◌, ◌-◌, ◌<◌, ◌≤◌, min, Bool, true, List, [], ◌∷◌, length, map, take, drop, Option, Some, None, sym, ap, ◌∙◌, refl, arith, add-one, length-take}
use Rattle.std.proofs.lemmas.List.{drop-drop}
use Rattle.std.proofs.lemmas.List.Elements.{All-cons}
use Rattle.std.specs.List.{All}
use Rattle.xt_lex.specs.declared.rules.Rules.{Rules}
use Rattle.xt_lex.specs.declared.front.Front.{Front}
use Rattle.xt_lex.specs.declared.token.Kind.{Kind}
use Rattle.xt_lex.specs.Bytes.{line_after}
use Rattle.xt_lex.specs.Pieces.{front_of, PieceText, piece_at, pieces_from}
use Rattle.xt_lex.specs.Tokens.{kind_of, TokenText, with_kind, tokens_among, token_of, tokens_of, token_texts, AreApart, IsTextOf}

-- a token of a piece stands apart from those behind the piece
apart_with : (kind : Option Kind) (p : PieceText) (ts : List TokenText) (low to : ℕ) → low ≤ p.from → 0 < length p.text
    → ((above : ℕ) → above ≤ p.from + length p.text → AreApart above (map token_of ts) to) → AreApart low (map token_of (with_kind kind p ts)) to
apart_with (Some kind) p ts low to h some behind = (h, omega arith, behind (p.from + length p.text) (omega arith))
apart_with None p ts low to h some behind = behind low (omega arith)

-- the tokens of bytes of which the first are passed over stand apart, behind those first ones
tokens_apart : (rules : Rules) (fresh : Bool) (bytes : List ℕ) (k from line low to : ℕ) → low ≤ from + min k (length bytes) → to ≡ from + length bytes
    → AreApart low (map token_of (tokens_among (pieces_from rules fresh k from line bytes))) to
tokens_apart rules fresh [] k from line low to h e = omega arith
tokens_apart rules fresh (b ∷ more) (suc k) from line low to h e =
    tokens_apart rules fresh more k (from + 1) (line_after b line) low to (omega arith) (omega arith)
tokens_apart rules fresh (b ∷ more) zero from line low to h e =
    let front : Front = front_of rules fresh b more in
    let size : length (take front.inner more) ≡ min front.inner (length more) = length-take front.inner more in
    apart_with (kind_of front.class) (piece_at front from line b more) (tokens_among (pieces_from rules front.fresh front.inner (from + 1) (line_after b line) more))
    low to (omega arith) (omega arith)
    (λ above g. tokens_apart rules front.fresh more front.inner (from + 1) (line_after b line) above to (omega (arith, size, g)) (omega arith))

-- the tokens of a text stand apart
pub spans_apart : (rules : Rules) (bytes : List ℕ) → AreApart 0 (tokens_of rules bytes) (length bytes)
spans_apart rules bytes = tokens_apart rules true bytes 0 0 1 0 (length bytes) (omega arith) (omega arith)

-- the bytes that are taken are as many as their number takes
take_again : (i : ℕ) (xs : List ℕ) → take (length (take i xs)) xs ≡ take i xs
take_again zero xs = refl
take_again (suc i) [] = refl
take_again (suc i) (x ∷ xs) = ap (λ (ys : List ℕ). x ∷ ys) (take_again i xs)

-- a piece's bytes are those of its span
text_at : (whole more : List ℕ) (b from inner : ℕ) → drop from whole ≡ b ∷ more
    → b ∷ take inner more ≡ take (from + length (b ∷ take inner more) - from) (drop from whole)
text_at whole more b from inner e =
    let n : from + length (b ∷ take inner more) - from ≡ length (take inner more) + 1 = omega arith in
    rw (n, e, add-one) (ap (λ (ys : List ℕ). b ∷ ys) (sym (take_again inner more)))

texts_with : (kind : Option Kind) (p : PieceText) (ts : List TokenText) (whole : List ℕ) → p.text ≡ take (p.from + length p.text - p.from) (drop p.from whole)
    → All (IsTextOf whole) ts → All (IsTextOf whole) (with_kind kind p ts)
texts_with (Some kind) p ts whole e behind = All-cons (IsTextOf whole) _ ts e behind
texts_with None p ts whole e behind = behind

texts_from : (rules : Rules) (fresh : Bool) (bytes : List ℕ) (k from line : ℕ) (whole : List ℕ) → drop from whole ≡ bytes
    → All (IsTextOf whole) (tokens_among (pieces_from rules fresh k from line bytes))
texts_from rules fresh [] k from line whole e = λ i d h. absurd (omega arith)
texts_from rules fresh (b ∷ more) (suc k) from line whole e =
    texts_from rules fresh more k (from + 1) (line_after b line) whole (sym (drop-drop 1 from whole) ∙ ap (drop 1) e)
texts_from rules fresh (b ∷ more) zero from line whole e =
    let front : Front = front_of rules fresh b more in
    texts_with (kind_of front.class) (piece_at front from line b more) _ whole (text_at whole more b from front.inner e)
    (texts_from rules front.fresh more front.inner (from + 1) (line_after b line) whole (sym (drop-drop 1 from whole) ∙ ap (drop 1) e))

-- each token's text is the bytes of its span
pub texts_of_spans : (rules : Rules) (bytes : List ℕ) → All (IsTextOf bytes) (token_texts rules bytes)
texts_of_spans rules bytes = texts_from rules true bytes 0 0 1 bytes refl
