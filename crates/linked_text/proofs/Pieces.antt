-- What was appended, piece by piece.
use Rattle.std.proofs.Common.{◌≡◌, ℕ, ◌*◌, suc, List, [], ◌∷◌, ◌++◌, length, map, take, drop, true, false, codes, ℤ, refl, sym, ap, subst, ◌∙◌, append_assoc, suc-mul, arith}
use Rattle.std.specs.Fmt.{decimal, signed_decimal}
use Rattle.std.specs.List.{flat_map}
use Rattle.std.proofs.lemmas.List.{length-drop}
use Rattle.std.proofs.lemmas.List.Concat.{flat_map-append, flat_map-cons}
use Rattle.xt_model.specs.declared.edge.Edge.{Edge}
use Rattle.xt_model.specs.declared.quad.Quad.{Quad}
use Rattle.xt_model.specs.declared.table.Table.{Table}
use Rattle.xt_model.specs.declared.net.Coupling.{Coupling}
use Rattle.xt_model.specs.declared.net.SinkPin.{SinkPin}
use Rattle.xt_model.specs.declared.net.TimingArc.{TimingArc}
use Rattle.xt_model.specs.declared.net.Net.{Net}
use Rattle.xt_model.specs.declared.check.CheckPoint.{CheckPoint}
use Rattle.xt_model.specs.Quads.{is_live}
use Rattle.xt_model.specs.Miller.{MillerNumbers}
use Rattle.xt_model.specs.Parts.{Parts}
use Rattle.text_lines.specs.Lines.{Line, line_text, text_of}
use Rattle.text_lines.specs.Words.{edge_word}
use Rattle.linked_text.specs.Linked.{head_line, counts_line, period_line, numbers_line, row_lines, table_lines, net_line, given_line, given_lines, coupling_line, sink_line, arc_line, net_lines, check_line, linked}
use Rattle.text_lines.specs.Miller.{miller_lines}
use Rattle.linked_text.specs.Writing.{spaced}
use Rattle.text_lines.specs.Fields.{field}

-- ---- numbers behind a field

numbers_spaced : (f : List ℕ) (xs : List ℤ) → line_text (f ∷ map signed_decimal xs) ≡ f ++ (flat_map spaced xs ++ 10 ∷ [])
numbers_spaced f [] = refl
numbers_spaced f (x ∷ xs) =
    ap (λ (t : List ℕ). f ++ 32 ∷ t) (numbers_spaced (signed_decimal x) xs ∙ sym (append_assoc (signed_decimal x) (flat_map spaced xs) (10 ∷ [])))
    ∙ ap (λ (t : List ℕ). f ++ (t ++ 10 ∷ [])) (sym (flat_map-cons spaced x xs))

-- a field, numbers and the end of the line were appended
pub numbers_then : (o p q r a f : List ℕ) (xs ys : List ℤ) → a ≡ f → xs ≡ ys → p ≡ o ++ a → q ≡ p ++ flat_map spaced xs → r ≡ q ++ 10 ∷ []
    → r ≡ o ++ line_text (f ∷ map signed_decimal ys)
numbers_then o p q r a f xs ys w v e1 e2 e3 =
    let regroup : ((o ++ f) ++ flat_map spaced ys) ++ 10 ∷ [] ≡ o ++ (f ++ (flat_map spaced ys ++ 10 ∷ [])) = simp append_assoc in
    rw (e3, e2, e1, w, v) (regroup ∙ ap (λ (t : List ℕ). o ++ t) (sym (numbers_spaced f ys)))

-- ---- rows

-- how many values are left after a row
pub rows_left : (k j columns : ℕ) (values after : List ℤ) → k ≡ suc j → length values ≡ k * columns → after ≡ drop columns values → length after ≡ j * columns
rows_left k j columns values after is len back =
    let all : length values ≡ suc j * columns = subst (λ (n : ℕ). length values ≡ n * columns) is len in
    rw back (omega (arith, length-drop columns values, all, suc-mul j columns))

-- a row was appended
pub rows_turn : (k j columns : ℕ) (values row after : List ℤ) (o p whole : List ℕ) → k ≡ suc j → row ≡ take columns values → after ≡ drop columns values
    → p ≡ o ++ line_text (numbers_line (codes "row") row) → o ++ text_of (row_lines k columns values) ≡ whole
    → p ++ text_of (row_lines j columns after) ≡ whole
rows_turn k j columns values row after o p whole is front back appended h =
    let one : o ++ text_of (row_lines (suc j) columns values) ≡ whole = subst (λ (n : ℕ). o ++ text_of (row_lines n columns values) ≡ whole) is h in
    rw (appended, front, back) (append_assoc o (line_text (numbers_line (codes "row") (take columns values))) (text_of (row_lines j columns (drop columns values))) ∙ one)

-- ---- pieces of lines

pub table_pieces : (t : Table) (slews loads values : List ℤ) (o p q r s : List ℕ) → slews ≡ t.slews → loads ≡ t.loads → values ≡ t.values
    → p ≡ o ++ line_text (codes "table" ∷ decimal (length slews) ∷ decimal (length loads) ∷ [])
    → q ≡ p ++ line_text (numbers_line (codes "slews") slews) → r ≡ q ++ line_text (numbers_line (codes "loads") loads)
    → s ≡ r ++ text_of (row_lines (length slews) (length loads) values)
    → s ≡ o ++ text_of (table_lines t)
table_pieces t slews loads values o p q r s w1 w2 w3 e1 e2 e3 e4 = rw (e4, e3, e2, e1, w1, w2, w3) (simp append_assoc)

-- what is given for an edge
pub live_line : (e : Edge) (q : Quad) → is_live q ≡ true
    → line_text (given_line e q) ≡ edge_word e ++ 32 ∷ (signed_decimal q.tlo ++ 32 ∷ (signed_decimal q.thi ++ 32 ∷ (signed_decimal q.slo ++ 32 ∷ (signed_decimal q.shi ++ 10 ∷ []))))
live_line e q live = rw live refl

pub quiet_line : (e : Edge) (q : Quad) → is_live q ≡ false → line_text (given_line e q) ≡ edge_word e ++ 32 ∷ (codes "quiet" ++ 10 ∷ [])
quiet_line e q dead = rw dead refl

-- a line for each element
lines_each : {X : Type 0} (g : X → Line) (xs : List X) → text_of (map g xs) ≡ flat_map (λ x. line_text (g x)) xs
lines_each g [] = refl
lines_each g (x ∷ xs) = ap (λ (t : List ℕ). line_text (g x) ++ t) (lines_each g xs) ∙ sym (flat_map-cons (λ y. line_text (g y)) x xs)

lines_of_each : {X : Type 0} (g : X → List Line) (xs : List X) → text_of (flat_map g xs) ≡ flat_map (λ x. text_of (g x)) xs
lines_of_each g [] = refl
lines_of_each g (x ∷ xs) = flat_map-append line_text (g x) (flat_map g xs) ∙ ap (λ (t : List ℕ). text_of (g x) ++ t) (lines_of_each g xs)

-- the body of a net
pub body_pieces : (n : Net) (couplings : List Coupling) (sinks : List SinkPin) (arcs : List TimingArc) (o p q r s : List ℕ)
    → couplings ≡ n.couplings → sinks ≡ n.sinks → arcs ≡ n.arcs
    → p ≡ o ++ text_of (given_lines n n.arcs) → q ≡ p ++ flat_map (λ k. line_text (coupling_line k)) couplings
    → r ≡ q ++ flat_map (λ k. line_text (sink_line k)) sinks → s ≡ r ++ flat_map (λ a. line_text (arc_line a)) arcs
    → s ≡ o ++ text_of (net_lines n)
body_pieces n couplings sinks arcs o p q r s w1 w2 w3 e1 e2 e3 e4 =
    let gs : List Line = given_lines n n.arcs in
    let ks : List Line = map coupling_line n.couplings in
    let ss : List Line = map sink_line n.sinks in
    let bs : List Line = map arc_line n.arcs in
    let text : text_of (gs ++ (ks ++ (ss ++ bs))) ≡ text_of gs ++ (flat_map (λ k. line_text (coupling_line k)) n.couplings ++ (flat_map (λ k. line_text (sink_line k)) n.sinks ++ flat_map (λ a. line_text (arc_line a)) n.arcs)) =
    flat_map-append line_text gs (ks ++ (ss ++ bs)) ∙ rw (flat_map-append line_text ks (ss ++ bs), flat_map-append line_text ss bs, lines_each coupling_line n.couplings, lines_each sink_line n.sinks, lines_each arc_line n.arcs) refl in
    let regroup : (((o ++ text_of gs) ++ flat_map (λ k. line_text (coupling_line k)) n.couplings) ++ flat_map (λ k. line_text (sink_line k)) n.sinks) ++ flat_map (λ a. line_text (arc_line a)) n.arcs ≡ o ++ (text_of gs ++ (flat_map (λ k. line_text (coupling_line k)) n.couplings ++ (flat_map (λ k. line_text (sink_line k)) n.sinks ++ flat_map (λ a. line_text (arc_line a)) n.arcs))) = simp append_assoc in
    rw (e4, e3, e2, e1, w1, w2, w3) (regroup ∙ ap (λ (t : List ℕ). o ++ t) (sym text))

-- all of it
pub whole_pieces : (d : Parts) (m : MillerNumbers) (tables : List Table) (heads nets : List Net) (checks : List CheckPoint) (o p q r s t u v w x : List ℕ)
    → m ≡ d.miller → tables ≡ d.tables → heads ≡ d.nets → nets ≡ d.nets → checks ≡ d.checks
    → p ≡ o ++ line_text (head_line m) → q ≡ p ++ line_text (counts_line d) → r ≡ q ++ line_text (period_line d) → s ≡ r ++ text_of (miller_lines m)
    → t ≡ s ++ flat_map (λ y. text_of (table_lines y)) tables → u ≡ t ++ flat_map (λ n. line_text (net_line n)) heads → v ≡ u ++ flat_map (λ n. text_of (net_lines n)) nets
    → w ≡ v ++ flat_map (λ c. line_text (check_line c)) checks → x ≡ w ++ field (codes "end") 10
    → x ≡ o ++ text_of (linked d)
unfolding field
whole_pieces d m tables heads nets checks o p q r s t u v w x w1 w2 w3 w4 w5 e1 e2 e3 e4 e5 e6 e7 e8 e9 =
    rw (e9, e8, e7, e6, e5, e4, e3, e2, e1, w1, w2, w3, w4, w5, ← lines_of_each table_lines d.tables, ← lines_each net_line d.nets, ← lines_of_each net_lines d.nets, ← lines_each check_line d.checks) (simp (flat_map-append, append_assoc))
