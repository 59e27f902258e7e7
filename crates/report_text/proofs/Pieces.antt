-- The pieces of a report make up its text.
use Rattle.std.proofs.Common.{◌≡◌, ℕ, ◌+◌, ◌<◌, ◌≤◌, Bool, true, false, List, [], ◌∷◌, ◌++◌, length, drop, take, get_or, map, codes, refl, sym, ap, subst, ◌∙◌, append_assoc, append-nil, Some}
use Rattle.std.specs.Prelude.{if◌then◌else◌}
use Rattle.std.specs.List.{slice_get}
use Rattle.std.proofs.lemmas.Grind.{flat_map-append}
use Rattle.std.proofs.lemmas.List.{take_more, take_all}
use Rattle.std.proofs.lemmas.Option.{slice_get-get_or}
use Rattle.xt_model.specs.declared.edge.Edge.{Edge}
use Rattle.xt_model.specs.declared.quad.Quad.{Quad}
use Rattle.xt_model.specs.declared.quad.Pair.{Pair}
use Rattle.xt_model.specs.declared.net.Net.{Net}
use Rattle.xt_model.specs.Quads.{is_live}
use Rattle.xt_model.specs.Parts.{Parts}
use Rattle.text_lines.specs.Lines.{Line, line_text, text_of}
use Rattle.text_lines.specs.Words.{edge_word}
use Rattle.aggressor_report.specs.declared.guilt.Guilt.{Guilt}
use Rattle.aggressor_report.proofs.Turns.{turn}
use Rattle.glitch_noise.specs.declared.peak.Peak.{Peak}
use Rattle.report_text.specs.declared.sections.Section.{Section}
use Rattle.report_text.specs.Report.{window_line, window_lines, is_unconstrained, unconstrained_lines, guilty_line, peak_line}
use Rattle.report_text.specs.Report.{Appends, AreSections, IsSection, end_lines}
use Rattle.report_text.specs.Names.{name_or_nothing}
use Rattle.report_text.specs.Fields.{quad_text}
use Rattle.text_lines.specs.Fields.{field}
use Rattle.report_text.specs.Pieces.{windows_text, unconstrained_text}

-- the bytes of a net that is there are its name
pub name_is : (nets : List Net) (n : ℕ) (net : Net) (bytes : List ℕ) → slice_get nets n ≡ Some net → bytes ≡ net.name → bytes ≡ name_or_nothing (slice_get nets n)
name_is nets n net bytes there e = rw there e

-- the line of a window that is live
pub window_live : (name : List ℕ) (e : Edge) (low high : Quad) → is_live high ≡ true
    → line_text (window_line name e low high)
    ≡ codes "net" ++ 32 ∷ (name ++ 32 ∷ (edge_word e ++ 32 ∷ (codes "least" ++ 32 ∷ (quad_text low 32 ++ (codes "greatest" ++ 32 ∷ quad_text high 10)))))
unfolding field
window_live name e low high live = rw live (simp append_assoc)

-- a net's line, and those of the nets behind it
either : (b : Bool) (a : Line) (more : List Line) → text_of (if b then a ∷ more else more) ≡ (if b then line_text a else []) ++ text_of more
either true a more = refl
either false a more = refl

pub unconstrained_next : (n : ℕ) (net : Net) (more : List Net) → text_of (unconstrained_lines (net ∷ more)) ≡ unconstrained_text net ++ text_of (unconstrained_lines more)
unconstrained_next n net more = either (is_unconstrained net) (codes "unconstrained" ∷ net.name ∷ []) (unconstrained_lines more)

-- a net's two lines, and those of the nets behind it
pub windows_next : (low high : List Pair) (n : ℕ) (net : Net) (more : List Net)
    → text_of (window_lines low high n (net ∷ more)) ≡ windows_text low high n net ++ text_of (window_lines low high (n + 1) more)
windows_next low high n net more = simp append_assoc

-- a turn of the loop over entries
entries_next : (d : Parts) (n : ℕ) (g : Guilt) (more : List Guilt) → text_of (map (guilty_line d) (g ∷ more)) ≡ line_text (guilty_line d g) ++ text_of (map (guilty_line d) more)
entries_next d n g more = refl

pub entries_turn : (d : Parts) (entries : List Guilt) (i : ℕ) (x : Guilt) (o p whole : List ℕ) → i < length entries → p ≡ o ++ line_text (guilty_line d (get_or entries i x))
    → o ++ text_of (map (guilty_line d) (drop i entries)) ≡ whole → p ++ text_of (map (guilty_line d) (drop (i + 1) entries)) ≡ whole
entries_turn d entries i x o p whole within appended h =
    turn (λ _ gs. text_of (map (guilty_line d) gs)) (λ _ g. line_text (guilty_line d g)) (entries_next d) entries i (get_or entries i x) o p whole (slice_get-get_or entries i x within) appended h

-- a turn of the loop over peaks
peaks_next : (d : Parts) (n : ℕ) (p : Peak) (more : List Peak) → text_of (map (peak_line d) (p ∷ more)) ≡ line_text (peak_line d p) ++ text_of (map (peak_line d) more)
peaks_next d n p more = refl

pub peaks_turn : (d : Parts) (peaks : List Peak) (i : ℕ) (x : Peak) (o p whole : List ℕ) → i < length peaks → p ≡ o ++ line_text (peak_line d (get_or peaks i x))
    → o ++ text_of (map (peak_line d) (drop i peaks)) ≡ whole → p ++ text_of (map (peak_line d) (drop (i + 1) peaks)) ≡ whole
peaks_turn d peaks i x o p whole within appended h =
    turn (λ _ ps. text_of (map (peak_line d) ps)) (λ _ p. line_text (peak_line d p)) (peaks_next d) peaks i (get_or peaks i x) o p whole (slice_get-get_or peaks i x within) appended h

-- ---- the lines of a report, piece by piece

pub head_pieces : (o p q r m : List ℕ) (title size clock : Line) (miller : List Line)
    → p ≡ o ++ line_text title → q ≡ p ++ line_text size → r ≡ q ++ line_text clock → m ≡ r ++ text_of miller
    → m ≡ o ++ text_of (title ∷ size ∷ clock ∷ miller)
head_pieces o p q r m title size clock miller e1 e2 e3 e4 = rw (e4, e3, e2, e1) (simp append_assoc)

pub report_pieces : (o p q r : List ℕ) (head sections : List Line) → o ≡ [] → p ≡ o ++ text_of head → q ≡ p ++ text_of sections → r ≡ q ++ field (codes "end") 10
    → r ≡ text_of (head ++ (sections ++ end_lines))
unfolding field
report_pieces o p q r head sections e0 e1 e2 e3 = rw (e3, e2, e1, e0) (simp (flat_map-append, append_assoc))

-- ---- sections, one after another

module _ (d : Parts) (low high : List Pair) where
  pub no_sections : (o : List ℕ) (ss : List Section) → Appends (AreSections (take 0 ss) d low high) o o
  no_sections o ss = ([], refl, sym (append-nil o))

  joined : (ss : List Section) (s : Section) (lines own : List Line) → AreSections ss d low high lines → IsSection s d low high own → AreSections (ss ++ s ∷ []) d low high (lines ++ own)
  joined [] s lines own e is = (own, [], is, refl, ap (λ ls. ls ++ own) e ∙ sym (append-nil own))
  joined (x ∷ ss) s lines own (first, others, is_first, are, e) is =
      (first, others ++ own, is_first, joined ss s others own are is, ap (λ ls. ls ++ own) e ∙ append_assoc first others own)

  pub one_more_section : (ss : List Section) (i : ℕ) (x : Section) (o p q : List ℕ) → i < length ss
      → Appends (AreSections (take i ss) d low high) o p → Appends (IsSection (get_or ss i x) d low high) p q → Appends (AreSections (take (i + 1) ss) d low high) o q
  one_more_section ss i x o p q within (lines, are, e) (own, is, f) = (
    lines ++ own,
    subst (λ t. AreSections t d low high (lines ++ own)) (sym (take_more ss i x within)) (joined (take i ss) (get_or ss i x) lines own are is),
    rw (f, e) (simp (flat_map-append, append_assoc)),
  )

  pub all_sections : (ss : List Section) (i : ℕ) (o p : List ℕ) → length ss ≤ i → Appends (AreSections (take i ss) d low high) o p → Appends (AreSections ss d low high) o p
  all_sections ss i o p past h = subst (λ t. Appends (AreSections t d low high) o p) (take_all i ss past) h
