-- How a text goes on behind a piece.
use Rattle.std.proofs.Common.{◌≡◌, ℕ, zero, suc, ◌+◌, ◌-◌, ◌≤◌, Bool, List, [], ◌∷◌, length, get_or, take, drop, sym, ap, ◌∙◌, refl, arith, add-one, length-take}
use Rattle.std.proofs.Math.Seq.{take-length}
use Rattle.xt_lex.specs.declared.front.Front.{Front}
use Rattle.xt_lex.specs.declared.rules.Rules.{Rules}
use Rattle.xt_lex.specs.Bytes.{line_behind, line_after}
use Rattle.xt_lex.specs.Pieces.{front_of, PieceText, pieces_from}

-- the bytes that belong to a piece before are passed over
pub passed_over : (rules : Rules) (fresh : Bool) (bytes : List ℕ) (k from line : ℕ)
    → pieces_from rules fresh k from line bytes ≡ pieces_from rules fresh 0 (from + k) (line_behind (take k bytes) line) (drop k bytes)
passed_over rules fresh [] zero from line = refl
passed_over rules fresh [] (suc k) from line = refl
passed_over rules fresh (b ∷ more) zero from line =
    let e : from ≡ from + 0 = omega arith in ap (λ f. pieces_from rules fresh 0 f line (b ∷ more)) e
passed_over rules fresh (b ∷ more) (suc k) from line =
    let e : (from + 1) + k ≡ from + suc k = omega arith in
    passed_over rules fresh more k (from + 1) (line_after b line)
    ∙ ap (λ f. pieces_from rules fresh 0 f (line_behind (take k more) (line_after b line)) (drop k more)) e

-- a text of one byte or more is its first piece and the pieces behind it
pub first_piece : (rules : Rules) (fresh : Bool) (from line b : ℕ) (more : List ℕ)
    → pieces_from rules fresh 0 from line (b ∷ more)
    ≡ record { class = (front_of rules fresh b more).class; text = b ∷ take (front_of rules fresh b more).inner more; from = from; line = line }
    ∷ pieces_from rules (front_of rules fresh b more).fresh 0 (from + 1 + (front_of rules fresh b more).inner)
    (line_behind (b ∷ take (front_of rules fresh b more).inner more) line) (drop (front_of rules fresh b more).inner more)
first_piece rules fresh from line b more =
    ap (λ (ps : List PieceText). record { class = (front_of rules fresh b more).class; text = b ∷ take (front_of rules fresh b more).inner more; from = from; line = line } ∷ ps)
    (passed_over rules (front_of rules fresh b more).fresh more (front_of rules fresh b more).inner (from + 1) (line_after b line))

-- the same of a text that is cut behind its first piece
pub next_piece : (rules : Rules) (fresh : Bool) (from line : ℕ) (rest : List ℕ) (b : ℕ) (more text back : List ℕ) (front : Front) (behind_line behind_from : ℕ)
    → rest ≡ b ∷ more → front ≡ front_of rules fresh b more → text ≡ take (front.inner + 1) rest → back ≡ drop (front.inner + 1) rest
    → front.inner ≤ length more → behind_from ≡ from + length text → behind_line ≡ line_behind text line
    → pieces_from rules fresh 0 from line rest
    ≡ record { class = front.class; text = text; from = from; line = line } ∷ pieces_from rules front.fresh 0 behind_from behind_line back
next_piece rules fresh from line rest b more text back front behind_line behind_from er ef et eb room en el =
    let t : text ≡ b ∷ take front.inner more = et ∙ rw (er, add-one) refl in
    let k : back ≡ drop front.inner more = eb ∙ rw (er, add-one) refl in
    let m : length text ≡ front.inner + 1 = ap length t ∙ omega (arith, length-take front.inner more) in
    let n : behind_from ≡ (from + 1) + front.inner = omega (arith, en, m) in
    let l : behind_line ≡ line_behind (b ∷ take front.inner more) line = el ∙ ap (λ x. line_behind x line) t in
    rw (er, t, k, n, l, ef) (first_piece rules fresh from line b more)

-- bytes that are not empty are the first one and those behind it
pub first_and_rest : (rest : List ℕ) → 1 ≤ length rest → rest ≡ get_or rest 0 0 ∷ take (length rest - 1) (drop 1 rest)
first_and_rest [] h = absurd (omega arith)
first_and_rest (b ∷ more) h =
    let e : length (b ∷ more) - 1 ≡ length more = omega arith in
    ap (λ (bs : List ℕ). b ∷ bs) (sym (ap (λ n. take n more) e ∙ take-length more))
