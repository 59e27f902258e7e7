-- An explained transition lies within the window that the operator makes of windows that hold its causes.
use Rattle.std.proofs.Common.{◌≡◌, ℕ, zero, suc, ◌<◌, refl, sym, subst, Bool, true, false, List, [], ◌∷◌, arith}
use Rattle.std.specs.Prelude.{IsTrue, if◌then◌else◌, Option, Some, None, IfSome, slice_index}
use Rattle.std.specs.List.{All, Contains, slice_get, fold}
use Rattle.std.specs.Option.{IsSomeAnd}
use Rattle.std.proofs.lemmas.Int.{ints, clamps}
use Rattle.std.proofs.lemmas.List.Elements.{All-nil, All-cons, All-contains}
use Rattle.xt_model.specs.declared.edge.Edge.{Edge}
use Rattle.xt_model.specs.declared.edge.Edge.TheVariants.{Rise, Fall}
use Rattle.xt_model.specs.declared.quad.Quad.{Quad}
use Rattle.xt_model.specs.declared.quad.Pair.{Pair}
use Rattle.xt_model.specs.declared.net.TimingArc.{TimingArc}
use Rattle.xt_model.specs.declared.net.Net.{Net}
use Rattle.xt_model.specs.Quads.{bottom, is_live, IsWithin, join_of, quad_at, same_edge}
use Rattle.xt_model.specs.Parts.{Parts}
use Rattle.xt_model.specs.Levels.{AreLevels}
use Rattle.xt_model.specs.Assign.{Assignment, assigned}
use Rattle.xt_meaning.specs.Overlap.{Answers, all_overlap, overlap_answers}
use Rattle.xt_meaning.specs.Operator.{contribution, contributes, with_arc, arcs_quad, net_quad, operator_by, operator}
use Rattle.xt_meaning.specs.Envelope.{IsWidest}
use Rattle.xt_meaning.proofs.Order.{within_trans, true_both, live_mono}
use Rattle.xt_meaning.proofs.Growth.{IsWired, AreWired}
use Rattle.xt_meaning.proofs.Starts.{fold_from}
use Rattle.xt_meaning.proofs.Widest.{inputs_below}
use Rattle.run_laws.specs.Transitions.{Transition, IsMadeBy, IsExplainedBy, IsExplained, AreConsistent}
use Rattle.run_laws.proofs.Cells.{point, point_live, within_from_lies, Covers, all_covers, windows_cover, made_within}

-- ---- the arcs of a net
join_right : (p q : Quad) → IsWithin q (join_of p q)
join_right p q = record { tlo = omega (arith, ints, clamps); thi = omega (arith, ints, clamps); slo = omega (arith, ints, clamps); shi = omega (arith, ints, clamps) }

pub joined : (t : Bool) (q r : Quad) → IsTrue t → IsWithin r (if t then join_of q r else q)
joined true q r h = join_right q r
joined false q r h = absurd (cc)

-- the join over arcs holds what each of them contributes
fold_holds : (d : Parts) (b : Answers) (W : Assignment) (n : ℕ) (net : Net) (e : Edge) (q : Quad) (arcs : List TimingArc)
    → All (λ a. IsTrue (contributes W e a) → IsWithin (contribution d b W n net e a) (fold (with_arc d b W n net e) q arcs)) arcs
fold_holds d b W n net e q [] = All-nil (λ a. IsTrue (contributes W e a) → IsWithin (contribution d b W n net e a) (fold (with_arc d b W n net e) q []))
fold_holds d b W n net e q (a ∷ more) =
    All-cons (λ i. IsTrue (contributes W e i) → IsWithin (contribution d b W n net e i) (fold (with_arc d b W n net e) q (a ∷ more))) a more
    (λ t. within_trans (contribution d b W n net e a) (with_arc d b W n net e q a) (fold (with_arc d b W n net e) (with_arc d b W n net e q a) more)
    (joined (contributes W e a) q (contribution d b W n net e a) t) (fold_from d b W n net e (with_arc d b W n net e q a) more))
    (fold_holds d b W n net e (with_arc d b W n net e q a) more)

pub same_edge_itself : (e : Edge) → IsTrue (same_edge e e)
same_edge_itself Rise = refl
same_edge_itself Fall = refl

made_contributes : (d : Parts) (W : Assignment) (xs : List Transition) (x : Transition) (net : Net) (a : TimingArc) (y : Transition)
    → IsWithin (point y) (W y.net y.edge) → IsMadeBy d xs net x a y → IsTrue (contributes W x.edge a)
made_contributes d W xs x net a y inside m =
    let P : Edge → Type 0 = λ e. IsTrue (same_edge a.output e) in
    let Q : ℕ → Type 0 = λ n. IsTrue (is_live (W n y.edge)) in
    let R : Edge → Type 0 = λ e. IsTrue (is_live (W a.from.0 e)) in
    true_both (same_edge a.output x.edge) (is_live (W a.from.0 a.input)) (subst P m.output_edge (same_edge_itself a.output))
    (subst R m.input_edge (subst Q m.input_net (live_mono (point y) (W y.net y.edge) inside (point_live y))))

-- the windows hold each transition of the list that comes in over one of these arcs
abbrev pub HoldsInputs : Assignment → List Transition → List TimingArc → Type 0
HoldsInputs W xs arcs = (a : TimingArc) (y : Transition) → Contains arcs a → Contains xs y → y.net ≡ a.from.0 → IsWithin (point y) (W y.net y.edge)

explained_arcs : (d : Parts) (b : Answers) (W : Assignment) (xs : List Transition) (x : Transition) (net : Net) (arcs : List TimingArc) → AreWired d → IsWired net → Covers d b xs → Contains xs x
    → HoldsInputs W xs arcs → IsExplainedBy d xs net x arcs → IsWithin (point x) (arcs_quad d b W x.net net x.edge arcs)
explained_arcs d b W xs x net [] ws own cover h holds why = within_from_lies (quad_at net.given x.edge) x why
explained_arcs d b W xs x net (a ∷ more) ws own cover h holds why =
    let inside = holds why.arc why.cause why.among why.listed why.made.input_net in
    within_trans (point x) (contribution d b W x.net net x.edge why.arc) (fold (with_arc d b W x.net net x.edge) bottom (a ∷ more))
    (made_within d b W xs x net why.arc why.cause ws own cover h why.listed inside why.made)
    (All-contains (λ i. IsTrue (contributes W x.edge i) → IsWithin (contribution d b W x.net net x.edge i) (fold (with_arc d b W x.net net x.edge) bottom (a ∷ more)))
    (a ∷ more) why.arc (fold_holds d b W x.net net x.edge bottom (a ∷ more)) why.among
    (made_contributes d W xs x net why.arc why.cause inside why.made))

explained_net : (d : Parts) (b : Answers) (W : Assignment) (xs : List Transition) (x : Transition) (o : Option Net) → AreWired d → IfSome o IsWired → Covers d b xs → Contains xs x
    → ((net : Net) → o ≡ Some net → HoldsInputs W xs net.arcs) → IsSomeAnd o (λ net. IsExplainedBy d xs net x net.arcs) → IsWithin (point x) (net_quad d b W x.net x.edge o)
explained_net d b W xs x None ws own cover h holds why = absurd why
explained_net d b W xs x (Some net) ws own cover h holds why = explained_arcs d b W xs x net net.arcs ws own cover h (holds net refl) why

-- under answers that cover the list
pub explained_within : (d : Parts) (b : Answers) (W : Assignment) (xs : List Transition) (x : Transition) → AreWired d → Covers d b xs → Contains xs x
    → ((net : Net) → slice_get d.nets x.net ≡ Some net → HoldsInputs W xs net.arcs) → IsExplained d xs x → IsWithin (point x) (operator_by d b W x.net x.edge)
unfolding operator_by
explained_within d b W xs x ws cover h holds why = explained_net d b W xs x (slice_get d.nets x.net) ws (ws.each x.net) cover h holds why

-- ---- all transitions of a consistent list
-- the windows hold each transition of the list
abbrev pub HoldAll : Assignment → List Transition → Type 0
HoldAll W xs = (x : Transition) → Contains xs x → IsWithin (point x) (W x.net x.edge)

-- windows that hold them make windows that hold them
pub operator_holds : (d : Parts) (W : Assignment) (xs : List Transition) → AreWired d → AreConsistent d xs → HoldAll W xs → HoldAll (operator d W) xs
operator_holds d W xs ws why holds = λ x h.
    explained_within d (overlap_answers d.period W) W xs x ws (windows_cover d W xs ws holds) h (λ net there a y among listed e. holds y listed)
    (All-contains (IsExplained d xs) xs x why h)

widest_below : (d : Parts) (ls : List ℕ) (xs : List Transition) (top : List Pair) → AreWired d → AreLevels d.nets ls → IsWidest d top → AreConsistent d xs
    → (most : ℕ) (x : Transition) → Contains xs x → slice_index ls x.net < most → IsWithin (point x) (assigned top x.net x.edge)
widest_below d ls xs top ws levels widest why zero x h below = absurd (omega arith)
widest_below d ls xs top ws levels widest why (suc most) x h below =
    let P : Quad → Type 0 = λ q. IsWithin (point x) q in
    subst P (widest.fixed x.net x.edge)
    (explained_within d all_overlap (assigned top) xs x ws (all_covers d xs) h
    (λ net there a y among listed e.
    let lower = All-contains (λ i. slice_index ls i.from.0 < slice_index ls x.net) net.arcs a (inputs_below d.nets ls levels x.net net there) among in
    let Q : ℕ → Type 0 = λ n. slice_index ls n < slice_index ls x.net in
    let of_y : slice_index ls y.net < slice_index ls x.net = subst Q (sym e) lower in
    widest_below d ls xs top ws levels widest why most y listed (omega (arith, of_y, below)))
    (All-contains (IsExplained d xs) xs x why h))

-- by levels, the envelope holds them
pub widest_holds : (d : Parts) (ls : List ℕ) (xs : List Transition) (top : List Pair) → AreWired d → AreLevels d.nets ls → IsWidest d top → AreConsistent d xs → HoldAll (assigned top) xs
widest_holds d ls xs top ws levels widest why = λ x h. widest_below d ls xs top ws levels widest why (suc (slice_index ls x.net)) x h (omega arith)
