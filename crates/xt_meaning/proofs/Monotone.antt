-- The operator is monotone, on any set of nets that covers what it looks at.
use Rattle.std.proofs.Common.{◌≡◌, ℕ, Bool, true, false, refl, subst, List, [], ◌∷◌, ℤ, arith}
use Rattle.std.specs.Prelude.{IsTrue, if◌then◌else◌, Option, Some, None, IfSome}
use Rattle.std.specs.List.{All, slice_get, fold}
use Rattle.std.proofs.lemmas.Int.{ints}
use Rattle.std.proofs.lemmas.List.Elements.{All-head, All-tail, All-weaker}
use Rattle.std.proofs.lemmas.Option.{IfSome_then}
use Rattle.xt_model.specs.declared.edge.Edge.{Edge}
use Rattle.xt_model.specs.declared.quad.Quad.{Quad}
use Rattle.xt_model.specs.declared.table.Table.{Table}
use Rattle.xt_model.specs.declared.net.Coupling.{Coupling}
use Rattle.xt_model.specs.declared.net.TimingArc.{TimingArc}
use Rattle.xt_model.specs.declared.net.Net.{Net}
use Rattle.xt_model.specs.Quads.{bottom, is_live, IsLive, IsWithin, join_of, quad_at, same_edge}
use Rattle.xt_model.specs.Parts.{Parts}
use Rattle.xt_model.specs.Assign.{Assignment}
use Rattle.xt_meaning.specs.Lookup.{Box, table_value, slew_value}
use Rattle.xt_meaning.specs.Overlap.{Answers, IsRealPeriod, overlap_answers, all_overlap}
use Rattle.xt_meaning.specs.Operator.{Range, wire_range, load_range, delay_range, slew_range, arc_box, contribution_by, contribution, contributes, with_arc, arcs_quad, net_quad, operator_by, operator, widest_operator}
use Rattle.xt_meaning.specs.Reads.{HoldsOfEnds, HoldsOfArcReads, HoldsOfReads, IsContainedAt}
use Rattle.xt_meaning.specs.Fixpoint.{IsContained}
use Rattle.xt_meaning.specs.Laws.{IsRangeWithin}
use Rattle.xt_meaning.proofs.Ranges.{IsBox, IsBoxWithin, least_over_larger, greatest_over_larger}
use Rattle.xt_meaning.proofs.Order.{within_refl, within_trans, within_antisym, join_mono, join_left, both_true, true_both, ordered_from_live, live_mono}
use Rattle.xt_meaning.proofs.Meeting.{overlaps_mono}
use Rattle.xt_meaning.proofs.Growth.{IsWired, AreWired, IsImpliedAt, IsRange, slew_growth_mono, load_range_ordered, load_range_mono, wire_range_ordered, wire_range_mono}

-- ---- one arc
arc_box_filled : (q : Quad) (w l : Range) → IsLive q → IsRange w → IsRange l → IsBox (arc_box q w l)
arc_box_filled q w l h a b =
    let o = ordered_from_live q h in
    let g = slew_growth_mono w.least w.most a.ordered in
    record { slews = omega (arith, ints, o.slews, g); loads = b.ordered }

arc_box_mono : (q r : Quad) (w x l m : Range) → IsWithin q r → IsRangeWithin w x → IsRangeWithin l m → IsBoxWithin (arc_box q w l) (arc_box r x m)
arc_box_mono q r w x l m h a b =
    let g = slew_growth_mono x.least w.least a.least in
    let k = slew_growth_mono w.most x.most a.most in
    record { s_low = omega (arith, ints, h.slo, g); s_high = omega (arith, ints, h.shi, k); c_low = b.least; c_high = b.most }

delay_range_mono : (o : Option Table) (a b : Box) → IsBox a → IsBoxWithin a b → IsRangeWithin (delay_range o a) (delay_range o b)
delay_range_mono None a b x w = record { least = omega (arith, ints); most = omega (arith, ints) }
delay_range_mono (Some t) a b x w = record { least = least_over_larger (table_value t) a b x w; most = greatest_over_larger (table_value t) a b x w }

slew_range_mono : (o : Option Table) (a b : Box) → IsBox a → IsBoxWithin a b → IsRangeWithin (slew_range o a) (slew_range o b)
slew_range_mono None a b x w = record { least = omega (arith, ints); most = omega (arith, ints) }
slew_range_mono (Some t) a b x w = record { least = least_over_larger (slew_value t) a b x w; most = greatest_over_larger (slew_value t) a b x w }

pub contribution_by_mono : (d : Parts) (a : TimingArc) (q r : Quad) (w x l m : Range) → IsWithin q r → IsLive q → IsRange w → IsRange l → IsRangeWithin w x → IsRangeWithin l m → IsWithin (contribution_by d a q w l) (contribution_by d a r x m)
contribution_by_mono d a q r w x l m h live rw rl hw hl =
    let box = arc_box_filled q w l live rw rl in
    let within = arc_box_mono q r w x l m h hw hl in
    let delay = delay_range_mono (slice_get d.tables a.delay) (arc_box q w l) (arc_box r x m) box within in
    let slew = slew_range_mono (slice_get d.tables a.slew) (arc_box q w l) (arc_box r x m) box within in
    record {
      tlo = omega (arith, ints, h.tlo, hw.least, delay.least);
      thi = omega (arith, ints, h.thi, hw.most, delay.most);
      slo = slew.least;
      shi = slew.most;
    }

-- what an arc looks at lies within what it looks at on the other side
pub record ArcGrows (d : Parts) (b c : Answers) (W V : Assignment) (n : ℕ) (net : Net) (a : TimingArc) : Type 0 where
  pub input : (e : Edge) → IsWithin (W a.from.0 e) (V a.from.0 e)
  pub own : IsImpliedAt b c n net.couplings
  pub wire : IfSome (slice_get d.nets a.from.0) (λ m. IsImpliedAt b c a.from.0 m.couplings)

pub contribution_mono : (d : Parts) (b c : Answers) (W V : Assignment) (n : ℕ) (net : Net) (e : Edge) (a : TimingArc)
    → AreWired d → IsWired net → ArcGrows d b c W V n net a → IsLive (W a.from.0 a.input)
    → IsWithin (contribution d b W n net e a) (contribution d c V n net e a)
contribution_mono d b c W V n net e a ws own g live =
    contribution_by_mono d a (W a.from.0 a.input) (V a.from.0 a.input)
    (wire_range d.miller b a.from.0 a.input a.sink (slice_get d.nets a.from.0)) (wire_range d.miller c a.from.0 a.input a.sink (slice_get d.nets a.from.0))
    (load_range d.miller b n e net) (load_range d.miller c n e net)
    (g.input a.input) live
    (wire_range_ordered d.miller b a.from.0 a.input a.sink (slice_get d.nets a.from.0) ws.miller (ws.each a.from.0))
    (load_range_ordered d.miller b n e net ws.miller own)
    (wire_range_mono d.miller b c a.from.0 a.input a.sink (slice_get d.nets a.from.0) ws.miller g.wire (ws.each a.from.0))
    (load_range_mono d.miller b c n e net ws.miller g.own own)

pub contributes_mono : (W V : Assignment) (e : Edge) (a : TimingArc) → IsWithin (W a.from.0 a.input) (V a.from.0 a.input) → IsTrue (contributes W e a) → IsTrue (contributes V e a)
contributes_mono W V e a h t =
    let p = both_true (same_edge a.output e) (is_live (W a.from.0 a.input)) t in
    true_both (same_edge a.output e) (is_live (V a.from.0 a.input)) p.0 (live_mono (W a.from.0 a.input) (V a.from.0 a.input) h p.1)

choose_mono : (x y : Bool) (p q s t : Quad) → (IsTrue x → IsTrue y) → IsWithin p q → (IsTrue x → IsWithin s t)
    → IsWithin (if x then join_of p s else p) (if y then join_of q t else q)
choose_mono true true p q s t i h k = join_mono p s q t h (k refl)
choose_mono true false p q s t i h k = absurd (let e = i refl in cc)
choose_mono false true p q s t i h k = within_trans p q (join_of q t) h (join_left q t)
choose_mono false false p q s t i h k = h

with_arc_mono : (d : Parts) (b c : Answers) (W V : Assignment) (n : ℕ) (net : Net) (e : Edge) (a : TimingArc) (p q : Quad)
    → AreWired d → IsWired net → ArcGrows d b c W V n net a → IsWithin p q
    → IsWithin (with_arc d b W n net e p a) (with_arc d c V n net e q a)
with_arc_mono d b c W V n net e a p q ws own g h =
    choose_mono (contributes W e a) (contributes V e a) p q (contribution d b W n net e a) (contribution d c V n net e a)
    (contributes_mono W V e a (g.input a.input)) h
    (λ t. contribution_mono d b c W V n net e a ws own g (both_true (same_edge a.output e) (is_live (W a.from.0 a.input)) t).1)

-- ---- the arcs of a net
fold_mono : (d : Parts) (b c : Answers) (W V : Assignment) (n : ℕ) (net : Net) (e : Edge) (arcs : List TimingArc) (p q : Quad)
    → AreWired d → IsWired net → All (ArcGrows d b c W V n net) arcs → IsWithin p q
    → IsWithin (fold (with_arc d b W n net e) p arcs) (fold (with_arc d c V n net e) q arcs)
fold_mono d b c W V n net e [] p q ws own g h = h
fold_mono d b c W V n net e (a ∷ more) p q ws own g h =
    fold_mono d b c W V n net e more (with_arc d b W n net e p a) (with_arc d c V n net e q a) ws own (All-tail (ArcGrows d b c W V n net) a more g)
    (with_arc_mono d b c W V n net e a p q ws own (All-head (ArcGrows d b c W V n net) a more g) h)

arcs_mono : (d : Parts) (b c : Answers) (W V : Assignment) (n : ℕ) (net : Net) (e : Edge) (arcs : List TimingArc)
    → AreWired d → IsWired net → All (ArcGrows d b c W V n net) arcs
    → IsWithin (arcs_quad d b W n net e arcs) (arcs_quad d c V n net e arcs)
arcs_mono d b c W V n net e [] ws own g = within_refl (quad_at net.given e)
arcs_mono d b c W V n net e (a ∷ more) ws own g = fold_mono d b c W V n net e (a ∷ more) bottom bottom ws own g (within_refl bottom)

net_mono : (d : Parts) (b c : Answers) (W V : Assignment) (n : ℕ) (e : Edge) (o : Option Net)
    → AreWired d → IfSome o IsWired → IfSome o (λ net. All (ArcGrows d b c W V n net) net.arcs)
    → IsWithin (net_quad d b W n e o) (net_quad d c V n e o)
net_mono d b c W V n e None ws own g = within_refl bottom
net_mono d b c W V n e (Some net) ws own g = arcs_mono d b c W V n net e net.arcs ws own g

-- what each arc of the net looks at lies within what it looks at on the other side
pub record NetGrows (d : Parts) (b c : Answers) (W V : Assignment) (n : ℕ) : Type 0 where
  pub arcs : IfSome (slice_get d.nets n) (λ net. All (ArcGrows d b c W V n net) net.arcs)

pub operator_by_mono : (d : Parts) (b c : Answers) (W V : Assignment) (n : ℕ) (e : Edge) → AreWired d → NetGrows d b c W V n
    → IsWithin (operator_by d b W n e) (operator_by d c V n e)
unfolding operator_by
operator_by_mono d b c W V n e ws g = net_mono d b c W V n e (slice_get d.nets n) ws (ws.each n) g.arcs

-- ---- on a set of nets
implied_on : (R : ℕ → Type 0) (p : Option ℤ) (W V : Assignment) (n : ℕ) (ks : List Coupling) → IsRealPeriod p → IsContainedAt R W V → R n → HoldsOfEnds R ks
    → IsImpliedAt (overlap_answers p W) (overlap_answers p V) n ks
implied_on R p W V n ks real h r ends = record {
  each = λ e f. All-weaker (λ k. R k.to.0) (λ k. IsTrue (overlap_answers p W n e k.to.0 f) → IsTrue (overlap_answers p V n e k.to.0 f))
      (λ k s t. overlaps_mono p (W n e) (W k.to.0 f) (V n e) (V k.to.0 f) real (h.each n e r) (h.each k.to.0 f s) t) ks ends;
}

arc_grows_on : (R : ℕ → Type 0) (d : Parts) (W V : Assignment) (n : ℕ) (net : Net) (a : TimingArc) → AreWired d → IsContainedAt R W V → HoldsOfArcReads R d n net a
    → ArcGrows d (overlap_answers d.period W) (overlap_answers d.period V) W V n net a
arc_grows_on R d W V n net a ws h r = record {
  input = λ e. h.each a.from.0 e r.from;
  own = implied_on R d.period W V n net.couplings ws.period h r.own r.aggressors;
  wire = IfSome_then (slice_get d.nets a.from.0) r.from_aggressors (λ m ends. implied_on R d.period W V a.from.0 m.couplings ws.period h r.from ends);
}

net_grows_on : (R : ℕ → Type 0) (d : Parts) (W V : Assignment) (n : ℕ) → AreWired d → IsContainedAt R W V → HoldsOfReads R d n
    → NetGrows d (overlap_answers d.period W) (overlap_answers d.period V) W V n
net_grows_on R d W V n ws h r = record {
  arcs = IfSome_then (slice_get d.nets n) r.arcs (λ net each. All-weaker (HoldsOfArcReads R d n net) (ArcGrows d (overlap_answers d.period W) (overlap_answers d.period V) W V n net)
      (λ a s. arc_grows_on R d W V n net a ws h s) net.arcs each);
}

-- windows that are contained where the operator looks for a net make a contained window of it
pub operator_mono_at : (R : ℕ → Type 0) (d : Parts) (W V : Assignment) (n : ℕ) (e : Edge) → AreWired d → HoldsOfReads R d n → IsContainedAt R W V
    → IsWithin (operator d W n e) (operator d V n e)
operator_mono_at R d W V n e ws r h =
    operator_by_mono d (overlap_answers d.period W) (overlap_answers d.period V) W V n e ws (net_grows_on R d W V n ws h r)

-- windows that agree where the operator looks for a net make the same window of it
pub operator_same_at : (R : ℕ → Type 0) (d : Parts) (W V : Assignment) (n : ℕ) (e : Edge) → AreWired d → HoldsOfReads R d n → IsContainedAt R W V → IsContainedAt R V W
    → operator d W n e ≡ operator d V n e
operator_same_at R d W V n e ws r h k = within_antisym (operator d W n e) (operator d V n e) (operator_mono_at R d W V n e ws r h) (operator_mono_at R d V W n e ws r k)

-- windows that are the same where R holds are contained there
pub contained_from_same : (R : ℕ → Type 0) (W V : Assignment) → ((m : ℕ) (f : Edge) → R m → W m f ≡ V m f) → IsContainedAt R W V
contained_from_same R W V same = record { each = λ m f r. let P : Quad → Type 0 = λ q. IsWithin (W m f) q in subst P (same m f r) (within_refl (W m f)) }

-- ---- on all nets
pub everywhere : (d : Parts) (n : ℕ) → HoldsOfReads (λ i. Unit {0}) d n
everywhere d n = record { arcs = any (slice_get d.nets n) } where
  ends : (ks : List Coupling) → HoldsOfEnds (λ i. Unit {0}) ks
  ends ks = λ k x h. tt

  behind : (o : Option Net) → IfSome o (λ m. HoldsOfEnds (λ i. Unit {0}) m.couplings)
  behind None = tt
  behind (Some m) = ends m.couplings

  any : (o : Option Net) → IfSome o (λ net. All (HoldsOfArcReads (λ i. Unit {0}) d n net) net.arcs)
  any None = tt
  any (Some net) = λ k x h. record { own = tt; aggressors = ends net.couplings; from = tt; from_aggressors = behind _ }

pub operator_mono : (d : Parts) (W V : Assignment) → AreWired d → IsContained W V → IsContained (operator d W) (operator d V)
operator_mono d W V ws h = record { each = λ n e. operator_mono_at (λ i. Unit {0}) d W V n e ws (everywhere d n) (record { each = λ m f u. h.each m f }) }

-- ---- where everything overlaps
all_implied : (b : Answers) (n : ℕ) (ks : List Coupling) → IsImpliedAt b all_overlap n ks
all_implied b n ks = record { each = λ e f k x h t. refl }

implied_behind : (d : Parts) (b : Answers) (m : ℕ) (o : Option Net) → IfSome o (λ net. IsImpliedAt b all_overlap m net.couplings)
implied_behind d b m None = tt
implied_behind d b m (Some net) = all_implied b m net.couplings

-- the window that each arc comes from lies within that of the other side
abbrev pub InputsGrow : Parts → Assignment → Assignment → ℕ → Type 0
InputsGrow d W V n = IfSome (slice_get d.nets n) (λ net. All (λ a. (e : Edge) → IsWithin (W a.from.0 e) (V a.from.0 e)) net.arcs)

-- with any answers, the window lies within that where everything overlaps
pub operator_by_widest : (d : Parts) (b : Answers) (W V : Assignment) (n : ℕ) (e : Edge) → AreWired d → InputsGrow d W V n
    → IsWithin (operator_by d b W n e) (widest_operator d V n e)
operator_by_widest d b W V n e ws g = operator_by_mono d b all_overlap W V n e ws (record {
  arcs = IfSome_then (slice_get d.nets n) g (λ net each. All-weaker (λ a. (e : Edge) → IsWithin (W a.from.0 e) (V a.from.0 e)) (ArcGrows d b all_overlap W V n net)
      (λ a h. record { input = h; own = all_implied b n net.couplings; wire = implied_behind d b a.from.0 (slice_get d.nets a.from.0) }) net.arcs each);
})

inputs_within : (d : Parts) (W V : Assignment) (n : ℕ) → IsContained W V → InputsGrow d W V n
inputs_within d W V n h = inputs (slice_get d.nets n) where
  inputs : (o : Option Net) → IfSome o (λ net. All (λ a. (e : Edge) → IsWithin (W a.from.0 e) (V a.from.0 e)) net.arcs)
  inputs None = tt
  inputs (Some net) = λ k x g e. h.each _ e

pub widest_mono : (d : Parts) (W V : Assignment) → AreWired d → IsContained W V → IsContained (widest_operator d W) (widest_operator d V)
widest_mono d W V ws h = record { each = λ n e. operator_by_widest d all_overlap W V n e ws (inputs_within d W V n h) }

pub contained_refl : (W : Assignment) → IsContained W W
contained_refl W = record { each = λ n e. within_refl (W n e) }

pub contained_trans : (W V U : Assignment) → IsContained W V → IsContained V U → IsContained W U
contained_trans W V U h k = record { each = λ n e. within_trans (W n e) (V n e) (U n e) (h.each n e) (k.each n e) }

pub widest_contains : (d : Parts) (W : Assignment) → AreWired d → IsContained (operator d W) (widest_operator d W)
widest_contains d W ws = record { each = λ n e. operator_by_widest d (overlap_answers d.period W) W W n e ws (inputs_within d W W n (contained_refl W)) }

-- ---- ranges
pub overlap_mono : (p : Option ℤ) (W V : Assignment) (n : ℕ) (e : Edge) (m : ℕ) (f : Edge) → IsRealPeriod p → IsContained W V
    → IsTrue (overlap_answers p W n e m f) → IsTrue (overlap_answers p V n e m f)
overlap_mono p W V n e m f real h t = overlaps_mono p (W n e) (W m f) (V n e) (V m f) real (h.each n e) (h.each m f) t

implied_everywhere : (p : Option ℤ) (W V : Assignment) (n : ℕ) (ks : List Coupling) → IsRealPeriod p → IsContained W V → IsImpliedAt (overlap_answers p W) (overlap_answers p V) n ks
implied_everywhere p W V n ks real h = record { each = λ e f k x b t. overlap_mono p W V n e _ f real h t }

pub loads_grow : (d : Parts) (W V : Assignment) (n : ℕ) (e : Edge) (net : Net) → AreWired d → slice_get d.nets n ≡ Some net → IsContained W V
    → IsRangeWithin (load_range d.miller (overlap_answers d.period W) n e net) (load_range d.miller (overlap_answers d.period V) n e net)
loads_grow d W V n e net ws there h =
    let P : Option Net → Type 0 = λ o. IfSome o IsWired in
    load_range_mono d.miller (overlap_answers d.period W) (overlap_answers d.period V) n e net ws.miller (implied_everywhere d.period W V n net.couplings ws.period h) (subst P there (ws.each n))

pub wires_grow : (d : Parts) (W V : Assignment) (n : ℕ) (e : Edge) (sink : ℕ) → AreWired d → IsContained W V
    → IsRangeWithin (wire_range d.miller (overlap_answers d.period W) n e sink (slice_get d.nets n)) (wire_range d.miller (overlap_answers d.period V) n e sink (slice_get d.nets n))
wires_grow d W V n e sink ws h =
    wire_range_mono d.miller (overlap_answers d.period W) (overlap_answers d.period V) n e sink (slice_get d.nets n) ws.miller (implied (slice_get d.nets n)) (ws.each n) where
      implied : (o : Option Net) → IfSome o (λ m. IsImpliedAt (overlap_answers d.period W) (overlap_answers d.period V) n m.couplings)
      implied None = tt
      implied (Some m) = implied_everywhere d.period W V n m.couplings ws.period h
