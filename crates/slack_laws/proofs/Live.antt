-- Windows that the operator gives back are live at the net and the edge of each consistent transition.
use Rattle.std.proofs.Common.{◌≡◌, ℕ, zero, suc, ◌<◌, refl, sym, subst, Bool, true, false, List, [], ◌∷◌, ◌≤ℤ◌, arith}
use Rattle.std.specs.Prelude.{IsTrue, if◌then◌else◌, Option, Some, None, IfSome, slice_index}
use Rattle.std.specs.List.{All, Contains, slice_get, fold}
use Rattle.std.specs.Option.{IsSomeAnd}
use Rattle.std.proofs.lemmas.Int.{ints, clamps}
use Rattle.std.proofs.lemmas.List.Elements.{All-nil, All-cons, All-contains}
use Rattle.xt_model.specs.declared.edge.Edge.{Edge}
use Rattle.xt_model.specs.declared.edge.Edge.TheVariants.{Rise, Fall}
use Rattle.xt_model.specs.declared.quad.Quad.{Quad}
use Rattle.xt_model.specs.declared.table.Table.{Table}
use Rattle.xt_model.specs.declared.net.TimingArc.{TimingArc}
use Rattle.xt_model.specs.declared.net.Net.{Net}
use Rattle.xt_model.specs.Quads.{bottom, is_live, IsLive, join_of, quad_at, same_edge}
use Rattle.xt_model.specs.Parts.{Parts}
use Rattle.xt_model.specs.Levels.{AreLevels}
use Rattle.xt_model.specs.Assign.{Assignment}
use Rattle.xt_meaning.specs.Lookup.{Box, table_value, slew_value}
use Rattle.xt_meaning.specs.Overlap.{Answers, overlap_answers}
use Rattle.xt_meaning.specs.Operator.{Range, wire_range, load_range, delay_range, slew_range, arc_box, contribution_by, contribution, contributes, with_arc, arcs_quad, net_quad, operator_by, operator}
use Rattle.xt_meaning.proofs.Ranges.{IsBox, least_over_greatest}
use Rattle.xt_meaning.proofs.Order.{true_both, ordered_from_live, live_from_ordered, live_mono}
use Rattle.xt_meaning.proofs.Growth.{IsWired, AreWired, IsRange, slew_growth_mono, load_range_ordered, wire_range_ordered}
use Rattle.xt_meaning.proofs.Starts.{fold_from}
use Rattle.xt_meaning.proofs.Widest.{inputs_below}
use Rattle.run_laws.specs.Transitions.{Transition, IsExplainedBy, IsExplained, AreConsistent}

-- ---- one arc
delay_ordered : (o : Option Table) (box : Box) → IsBox box → (delay_range o box).least ≤ℤ (delay_range o box).most
delay_ordered None box h = omega (arith, ints)
delay_ordered (Some t) box h = least_over_greatest (table_value t) box h

slew_ordered : (o : Option Table) (box : Box) → IsBox box → (slew_range o box).least ≤ℤ (slew_range o box).most
slew_ordered None box h = omega (arith, ints)
slew_ordered (Some t) box h = least_over_greatest (slew_value t) box h

-- what an arc makes of a live window is live
contributed_live : (d : Parts) (a : TimingArc) (q : Quad) (wire load : Range) → IsLive q → IsRange wire → IsRange load → IsLive (contribution_by d a q wire load)
contributed_live d a q wire load live w l =
    let o = ordered_from_live q live in
    let grown = slew_growth_mono wire.least wire.most w.ordered in
    let box : IsBox (arc_box q wire load) = record { slews = omega (arith, ints, o.slews, grown); loads = l.ordered } in
    let delay = delay_ordered (slice_get d.tables a.delay) (arc_box q wire load) box in
    live_from_ordered (contribution_by d a q wire load)
    (record { times = omega (arith, ints, o.times, w.ordered, delay); slews = slew_ordered (slice_get d.tables a.slew) (arc_box q wire load) box })

-- ---- the arcs of a net
joined_live : (t : Bool) (q r : Quad) → IsTrue t → IsLive r → IsLive (if t then join_of q r else q)
joined_live true q r h live =
    live_mono r (join_of q r) (record { tlo = omega (arith, ints, clamps); thi = omega (arith, ints, clamps); slo = omega (arith, ints, clamps); shi = omega (arith, ints, clamps) }) live
joined_live false q r h live = absurd (cc)

fold_live : (d : Parts) (b : Answers) (W : Assignment) (n : ℕ) (net : Net) (e : Edge) (q : Quad) (arcs : List TimingArc)
    → All (λ a. IsTrue (contributes W e a) → IsLive (contribution d b W n net e a) → IsLive (fold (with_arc d b W n net e) q arcs)) arcs
fold_live d b W n net e q [] = All-nil (λ a. IsTrue (contributes W e a) → IsLive (contribution d b W n net e a) → IsLive (fold (with_arc d b W n net e) q []))
fold_live d b W n net e q (a ∷ more) =
    All-cons (λ i. IsTrue (contributes W e i) → IsLive (contribution d b W n net e i) → IsLive (fold (with_arc d b W n net e) q (a ∷ more))) a more
    (λ t live. live_mono (with_arc d b W n net e q a) (fold (with_arc d b W n net e) (with_arc d b W n net e q a) more) (fold_from d b W n net e (with_arc d b W n net e q a) more)
    (joined_live (contributes W e a) q (contribution d b W n net e a) t live))
    (fold_live d b W n net e (with_arc d b W n net e q a) more)

same_edge_here : (e : Edge) → IsTrue (same_edge e e)
same_edge_here Rise = refl
same_edge_here Fall = refl

-- the windows are live at each transition of the list that comes in over one of these arcs
abbrev LiveInputs : Assignment → List Transition → List TimingArc → Type 0
LiveInputs W xs arcs = (a : TimingArc) (y : Transition) → Contains arcs a → Contains xs y → y.net ≡ a.from.0 → IsLive (W y.net y.edge)

explained_arcs : (d : Parts) (b : Answers) (W : Assignment) (xs : List Transition) (x : Transition) (net : Net) (arcs : List TimingArc) → AreWired d → IsWired net → LiveInputs W xs arcs
    → IsExplainedBy d xs net x arcs → IsLive (arcs_quad d b W x.net net x.edge arcs)
explained_arcs d b W xs x net [] ws own inputs why =
    live_from_ordered (quad_at net.given x.edge) (record { times = omega (arith, ints, why.tlo, why.thi); slews = omega (arith, ints, why.slo, why.shi) })
explained_arcs d b W xs x net (a ∷ more) ws own inputs why =
    let i = why.arc in
    let y = why.cause in
    let P : ℕ → Type 0 = λ n. IsLive (W n y.edge) in
    let Q : Edge → Type 0 = λ e. IsLive (W i.from.0 e) in
    let R : Edge → Type 0 = λ e. IsTrue (same_edge i.output e) in
    let live = subst Q why.made.input_edge (subst P why.made.input_net (inputs i y why.among why.listed why.made.input_net)) in
    let counts = true_both (same_edge i.output x.edge) (is_live (W i.from.0 i.input)) (subst R why.made.output_edge (same_edge_here i.output)) live in
    All-contains (λ j. IsTrue (contributes W x.edge j) → IsLive (contribution d b W x.net net x.edge j) → IsLive (fold (with_arc d b W x.net net x.edge) bottom (a ∷ more))) (a ∷ more) i
    (fold_live d b W x.net net x.edge bottom (a ∷ more)) why.among counts
    (contributed_live d i (W i.from.0 i.input) (wire_range d.miller b i.from.0 i.input i.sink (slice_get d.nets i.from.0)) (load_range d.miller b x.net x.edge net) live
    (wire_range_ordered d.miller b i.from.0 i.input i.sink (slice_get d.nets i.from.0) ws.miller (ws.each i.from.0)) (load_range_ordered d.miller b x.net x.edge net ws.miller own))

explained_net : (d : Parts) (b : Answers) (W : Assignment) (xs : List Transition) (x : Transition) (o : Option Net) → AreWired d → IfSome o IsWired → ((net : Net) → o ≡ Some net → LiveInputs W xs net.arcs)
    → IsSomeAnd o (λ net. IsExplainedBy d xs net x net.arcs) → IsLive (net_quad d b W x.net x.edge o)
explained_net d b W xs x None ws own inputs why = absurd why
explained_net d b W xs x (Some net) ws own inputs why = explained_arcs d b W xs x net net.arcs ws own (inputs net refl) why

explained_live : (d : Parts) (b : Answers) (W : Assignment) (xs : List Transition) (x : Transition) → AreWired d → ((net : Net) → slice_get d.nets x.net ≡ Some net → LiveInputs W xs net.arcs) → IsExplained d xs x
    → IsLive (operator_by d b W x.net x.edge)
unfolding operator_by
explained_live d b W xs x ws inputs why = explained_net d b W xs x (slice_get d.nets x.net) ws (ws.each x.net) inputs why

-- ---- all transitions of the list, by levels
module _ (d : Parts) (ls : List ℕ) (W : Assignment) (xs : List Transition) (ws : AreWired d) (levels : AreLevels d.nets ls) (fixed : (n : ℕ) (e : Edge) → operator d W n e ≡ W n e) (why : AreConsistent d xs) where
  live_below : (most : ℕ) (x : Transition) → Contains xs x → slice_index ls x.net < most → IsLive (W x.net x.edge)
  live_below zero x h below = absurd (omega arith)
  live_below (suc most) x h below =
      subst IsLive (fixed x.net x.edge)
      (explained_live d (overlap_answers d.period W) W xs x ws
      (λ net there a y among listed e.
      let lower = All-contains (λ i. slice_index ls i.from.0 < slice_index ls x.net) net.arcs a (inputs_below d.nets ls levels x.net net there) among in
      let Q : ℕ → Type 0 = λ n. slice_index ls n < slice_index ls x.net in
      let of_y : slice_index ls y.net < slice_index ls x.net = subst Q (sym e) lower in
      live_below most y listed (omega (arith, of_y, below)))
      (All-contains (IsExplained d xs) xs x why h))

  pub live_there : (x : Transition) → Contains xs x → IsLive (W x.net x.edge)
  live_there x h = live_below (suc (slice_index ls x.net)) x h (omega arith)
