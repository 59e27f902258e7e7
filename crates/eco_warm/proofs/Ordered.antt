-- The operator of two lists of nets whose ranges lie within one another, in one design.
use Rattle.std.proofs.Common.{ℕ, Bool, true, false, refl, subst, List, [], ◌∷◌, arith}
use Rattle.std.specs.Prelude.{IsTrue, if◌then◌else◌, Option, Some, None, IfSome}
use Rattle.std.specs.List.{slice_get, fold}
use Rattle.std.proofs.lemmas.Int.{ints}
use Rattle.xt_model.specs.declared.edge.Edge.{Edge}
use Rattle.xt_model.specs.declared.quad.Quad.{Quad}
use Rattle.xt_model.specs.declared.quad.Pair.{Pair}
use Rattle.xt_model.specs.declared.net.TimingArc.{TimingArc}
use Rattle.xt_model.specs.declared.net.Net.{Net}
use Rattle.xt_model.specs.Quads.{bottom, is_live, IsWithin, join_of, quad_at, same_edge}
use Rattle.xt_model.specs.Miller.{MillerNumbers}
use Rattle.xt_model.specs.Parts.{Parts}
use Rattle.xt_model.specs.Assign.{Assignment}
use Rattle.xt_meaning.specs.Overlap.{Answers, overlap_answers}
use Rattle.xt_meaning.specs.Operator.{wire_range, load_range, contribution, contributes, with_arc, arcs_quad, net_quad, operator_by, operator}
use Rattle.xt_meaning.specs.Fixpoint.{IsContained}
use Rattle.xt_meaning.specs.Laws.{IsRangeWithin}
use Rattle.xt_meaning.proofs.Order.{within_refl, join_mono, both_true}
use Rattle.xt_meaning.proofs.Growth.{IsWired, AreWired, load_range_ordered, wire_range_ordered}
use Rattle.xt_meaning.proofs.Monotone.{contribution_by_mono}
use Rattle.eco_warm.proofs.Inward.{IsInward}
use Rattle.eco_warm.proofs.Nets.{IsRelated, AreRelated}

-- the design with other nets
abbrev pub with_nets : Parts → List Net → Parts
with_nets d nets = record d { nets = nets }

-- net by net, the ranges of the one list lie within those of the other
abbrev pub AreInward : MillerNumbers → List Net → List Net → Type 0
AreInward mi ys xs = AreRelated (IsInward mi) ys xs

-- ---- one arc
choose : (t : Bool) (p q r s : Quad) → IsWithin p q → (IsTrue t → IsWithin r s) → IsWithin (if t then join_of p r else p) (if t then join_of q s else q)
choose true p q r s h k = join_mono p r q s h (k refl)
choose false p q r s h k = h

wire_inward : (mi : MillerNumbers) (b : Answers) (n : ℕ) (e : Edge) (sink : ℕ) (o p : Option Net) → IsRelated (IsInward mi) o p
    → IsRangeWithin (wire_range mi b n e sink o) (wire_range mi b n e sink p)
wire_inward mi b n e sink None None h = record { least = omega (arith, ints); most = omega (arith, ints) }
wire_inward mi b n e sink None (Some x) h = absurd h
wire_inward mi b n e sink (Some y) None h = absurd h
wire_inward mi b n e sink (Some y) (Some x) h = h.wires b n e sink

module _ (d : Parts) (ys xs : List Net) (ws : AreWired (with_nets d ys)) (inward : AreInward d.miller ys xs) (b : Answers) (W : Assignment) (n : ℕ) (e : Edge) where
  arc_inward : (y x : Net) → IsInward d.miller y x → IsWired y → (a : TimingArc) → IsTrue (contributes W e a)
      → IsWithin (contribution (with_nets d ys) b W n y e a) (contribution (with_nets d xs) b W n x e a)
  arc_inward y x h w a t =
      let from = inward.each a.from.0 in
      contribution_by_mono (with_nets d ys) a (W a.from.0 a.input) (W a.from.0 a.input)
      (wire_range d.miller b a.from.0 a.input a.sink (slice_get ys a.from.0)) (wire_range d.miller b a.from.0 a.input a.sink (slice_get xs a.from.0))
      (load_range d.miller b n e y) (load_range d.miller b n e x)
      (within_refl (W a.from.0 a.input)) (both_true (same_edge a.output e) (is_live (W a.from.0 a.input)) t).1
      (wire_range_ordered d.miller b a.from.0 a.input a.sink (slice_get ys a.from.0) ws.miller (ws.each a.from.0))
      (load_range_ordered d.miller b n e y ws.miller w)
      (wire_inward d.miller b a.from.0 a.input a.sink (slice_get ys a.from.0) (slice_get xs a.from.0) from)
      (h.loads b n e)

  fold_inward : (y x : Net) → IsInward d.miller y x → IsWired y → (arcs : List TimingArc) (p q : Quad) → IsWithin p q
      → IsWithin (fold (with_arc (with_nets d ys) b W n y e) p arcs) (fold (with_arc (with_nets d xs) b W n x e) q arcs)
  fold_inward y x h w [] p q k = k
  fold_inward y x h w (a ∷ more) p q k =
      fold_inward y x h w more (with_arc (with_nets d ys) b W n y e p a) (with_arc (with_nets d xs) b W n x e q a)
      (choose (contributes W e a) p q (contribution (with_nets d ys) b W n y e a) (contribution (with_nets d xs) b W n x e a) k (arc_inward y x h w a))

  arcs_inward : (y x : Net) → IsInward d.miller y x → IsWired y → (arcs : List TimingArc)
      → IsWithin (arcs_quad (with_nets d ys) b W n y e arcs) (arcs_quad (with_nets d xs) b W n x e arcs)
  arcs_inward y x h w [] = let P : Pair → Type 0 = λ g. IsWithin (quad_at y.given e) (quad_at g e) in subst P h.given (within_refl (quad_at y.given e))
  arcs_inward y x h w (a ∷ more) = fold_inward y x h w (a ∷ more) bottom bottom (within_refl bottom)

  net_inward : (o p : Option Net) → IsRelated (IsInward d.miller) o p → IfSome o IsWired → IsWithin (net_quad (with_nets d ys) b W n e o) (net_quad (with_nets d xs) b W n e p)
  net_inward None None h w = within_refl bottom
  net_inward None (Some x) h w = absurd h
  net_inward (Some y) None h w = absurd h
  net_inward (Some y) (Some x) h w =
      let P : List TimingArc → Type 0 = λ arcs. IsWithin (arcs_quad (with_nets d ys) b W n y e y.arcs) (arcs_quad (with_nets d xs) b W n x e arcs) in
      subst P h.arcs (arcs_inward y x h w y.arcs)

pub operator_inward : (d : Parts) (ys xs : List Net) → AreWired (with_nets d ys) → AreInward d.miller ys xs → (W : Assignment)
    → IsContained (operator (with_nets d ys) W) (operator (with_nets d xs) W)
unfolding operator_by
operator_inward d ys xs ws h W = record {
  each = λ n e. net_inward d ys xs ws h (overlap_answers d.period W) W n e (slice_get ys n) (slice_get xs n) (h.each n) (ws.each n);
}
