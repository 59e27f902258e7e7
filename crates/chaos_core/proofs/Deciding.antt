-- Where what decides a net's windows is the same, the operator makes the same of it.
use Rattle.std.proofs.Common.{◌≡◌, ℕ, zero, refl, ap, ◌∙◌, Bool, if◌then◌else◌, List, [], ◌∷◌, arith}
use Rattle.std.specs.Prelude.{◌&&◌, Option, Some, None, IfSome}
use Rattle.std.specs.List.{All, fold, slice_get}
use Rattle.std.proofs.lemmas.List.Elements.{All-tail}
use Rattle.xt_model.specs.declared.edge.Edge.{Edge}
use Rattle.xt_model.specs.declared.quad.Quad.{Quad}
use Rattle.xt_model.specs.declared.net.Coupling.{Coupling}
use Rattle.xt_model.specs.declared.net.TimingArc.{TimingArc}
use Rattle.xt_model.specs.declared.net.Net.{Net}
use Rattle.xt_model.specs.Quads.{bottom, is_live, join_of, other_edge, same_edge}
use Rattle.xt_model.specs.Miller.{MillerNumbers}
use Rattle.xt_model.specs.Parts.{Parts}
use Rattle.xt_model.specs.Assign.{Assignment}
use Rattle.xt_meaning.specs.Overlap.{Answers, overlap_answers, least_factor, greatest_factor, least_factors, greatest_factors}
use Rattle.xt_meaning.specs.Wires.{load_of, wire_delay}
use Rattle.xt_meaning.specs.Operator.{Range, wire_range, load_range, contribution_by, with_arc, arcs_quad, net_quad, operator, operator_by}
use Rattle.chaos_core.specs.Alike.{AreDecidedAlike, IsFedAlike}

-- ---- factors
module _ (m : MillerNumbers) (b c : Answers) (n : ℕ) (e : Edge) where
  abbrev Same : Coupling → Type 0
  Same k = (g f : Edge) → b n g k.to.0 f ≡ c n g k.to.0 f

  same_least : (ks : List Coupling) → All Same ks → least_factors m b n e ks ≡ least_factors m c n e ks
  same_least [] h = refl
  same_least (k ∷ ks) h =
      let here : Same k = h zero k (omega arith) in
      ap (λ (t : Bool). (if t then m.low else m.mid) ∷ least_factors m b n e ks) (here e e)
      ∙ ap (λ (xs : List ℕ). least_factor m c n e k ∷ xs) (same_least ks (All-tail Same k ks h))

  same_greatest : (ks : List Coupling) → All Same ks → greatest_factors m b n e ks ≡ greatest_factors m c n e ks
  same_greatest [] h = refl
  same_greatest (k ∷ ks) h =
      let here : Same k = h zero k (omega arith) in
      ap (λ (t : Bool). (if t then m.high else m.mid) ∷ greatest_factors m b n e ks) (here e (other_edge e))
      ∙ ap (λ (xs : List ℕ). greatest_factor m c n e k ∷ xs) (same_greatest ks (All-tail Same k ks h))

  same_load : (net : Net) → All Same net.couplings → load_range m b n e net ≡ load_range m c n e net
  same_load net h =
      let F : List ℕ → Range = λ xs. record { least = load_of xs net; most = load_of (greatest_factors m b n e net.couplings) net } in
      let G : List ℕ → Range = λ xs. record { least = load_of (least_factors m c n e net.couplings) net; most = load_of xs net } in
      ap F (same_least net.couplings h) ∙ ap G (same_greatest net.couplings h)

  same_wire : (sink : ℕ) (o : Option Net) → IfSome o (λ net. All Same net.couplings) → wire_range m b n e sink o ≡ wire_range m c n e sink o
  same_wire sink None h = refl
  same_wire sink (Some net) h =
      let F : List ℕ → Range = λ xs. record { least = wire_delay xs net sink; most = wire_delay (greatest_factors m b n e net.couplings) net sink } in
      let G : List ℕ → Range = λ xs. record { least = wire_delay (least_factors m c n e net.couplings) net sink; most = wire_delay xs net sink } in
      ap F (same_least net.couplings h) ∙ ap G (same_greatest net.couplings h)

-- ---- arcs
module _ (d : Parts) (W V : Assignment) (n : ℕ) (e : Edge) (net : Net) where
  abbrev b : Answers
  b = overlap_answers d.period W

  abbrev c : Answers
  c = overlap_answers d.period V

  same_arc : (q : Quad) (a : TimingArc) → IsFedAlike d W V n net a → with_arc d b W n net e q a ≡ with_arc d c V n net e q a
  same_arc q a h =
      let F : Quad → Range → Range → Quad = λ input wire load. if same_edge a.output e && is_live input then join_of q (contribution_by d a input wire load) else q in
      let from = slice_get d.nets a.from.0 in
      ap (λ (i : Quad). F i (wire_range d.miller b a.from.0 a.input a.sink from) (load_range d.miller b n e net)) h.window
      ∙ (ap (λ (w : Range). F (V a.from.0 a.input) w (load_range d.miller b n e net)) (same_wire d.miller b c a.from.0 a.input a.sink from h.from)
      ∙ ap (λ (l : Range). F (V a.from.0 a.input) (wire_range d.miller c a.from.0 a.input a.sink from) l) (same_load d.miller b c n e net h.own))

  same_fold : (arcs : List TimingArc) (q : Quad) → All (IsFedAlike d W V n net) arcs → fold (with_arc d b W n net e) q arcs ≡ fold (with_arc d c V n net e) q arcs
  same_fold [] q h = refl
  same_fold (a ∷ arcs) q h =
      let here : IsFedAlike d W V n net a = h zero a (omega arith) in
      ap (λ (p : Quad). fold (with_arc d b W n net e) p arcs) (same_arc q a here)
      ∙ same_fold arcs (with_arc d c V n net e q a) (All-tail (IsFedAlike d W V n net) a arcs h)

  same_arcs : (arcs : List TimingArc) → All (IsFedAlike d W V n net) arcs → arcs_quad d b W n net e arcs ≡ arcs_quad d c V n net e arcs
  same_arcs [] h = refl
  same_arcs (a ∷ arcs) h = same_fold (a ∷ arcs) bottom h

-- ---- the operator
same_net : (d : Parts) (W V : Assignment) (n : ℕ) (e : Edge) (o : Option Net) → IfSome o (λ net. All (IsFedAlike d W V n net) net.arcs)
    → net_quad d (overlap_answers d.period W) W n e o ≡ net_quad d (overlap_answers d.period V) V n e o
same_net d W V n e None h = refl
same_net d W V n e (Some net) h = same_arcs d W V n e net net.arcs h

pub same_where_decided : (d : Parts) (W V : Assignment) (n : ℕ) (e : Edge) → AreDecidedAlike d W V n → operator d W n e ≡ operator d V n e
unfolding operator_by
same_where_decided d W V n e h = same_net d W V n e (slice_get d.nets n) h.arcs
