-- What a cell makes of a transition lies within the window that the operator makes for its arc.
use Rattle.std.proofs.Common.{◌≡◌, ℕ, ◌≤◌, inl, inr, refl, sym, subst, Bool, true, false, List, [], ◌∷◌, ℤ, ◌+ℤ◌, ◌≤ℤ◌, arith}
use Rattle.std.specs.Prelude.{IsTrue, if◌then◌else◌, Option, Some, None, IfSome}
use Rattle.std.specs.List.{Contains, slice_get}
use Rattle.std.specs.Option.{IsSomeAnd}
use Rattle.std.proofs.lemmas.Int.{ints}
use Rattle.xt_model.specs.declared.edge.Edge.{Edge}
use Rattle.xt_model.specs.declared.quad.Quad.{Quad}
use Rattle.xt_model.specs.declared.table.Table.{Table}
use Rattle.xt_model.specs.declared.net.Coupling.{Coupling}
use Rattle.xt_model.specs.declared.net.TimingArc.{TimingArc}
use Rattle.xt_model.specs.declared.net.Net.{Net}
use Rattle.xt_model.specs.Quads.{IsLive, IsWithin, other_edge}
use Rattle.xt_model.specs.Miller.{MillerNumbers, IsMiller}
use Rattle.xt_model.specs.Parts.{Parts}
use Rattle.xt_model.specs.Assign.{Assignment}
use Rattle.xt_meaning.specs.Lookup.{Box, table_value, slew_value}
use Rattle.xt_meaning.specs.Wires.{slew_growth}
use Rattle.xt_meaning.specs.Overlap.{Answers, all_overlap, overlap_answers, Overlap, least_factor, greatest_factor, least_factors, greatest_factors}
use Rattle.xt_meaning.specs.Operator.{Range, wire_range, load_range, delay_range, slew_range, arc_box, contribution_by, contribution}
use Rattle.xt_meaning.proofs.Order.{live_from_ordered}
use Rattle.xt_meaning.proofs.Meeting.{overlaps_decides, overlaps_mono}
use Rattle.xt_meaning.proofs.Ranges.{IsInBox, least_over_below, greatest_over_above}
use Rattle.xt_meaning.proofs.Growth.{IsWired, AreWired, AreNoGreater, load_mono, wire_delay_mono, slew_growth_mono}
use Rattle.run_laws.specs.Transitions.{Transition, AreTogether, MeetsOneAt, IsAdmitted, AreAdmitted, IsWireDelay, IsLoad, cell_delay, cell_slew, IsMadeBy, LiesIn}

-- ---- a transition as a window
abbrev pub point : Transition → Quad
point x = record { tlo = x.time; thi = x.time; slo = x.slew; shi = x.slew }

pub point_live : (x : Transition) → IsLive (point x)
point_live x = live_from_ordered (point x) (record { times = omega (arith, ints); slews = omega (arith, ints) })

pub lies_from_within : (q : Quad) (x : Transition) → IsWithin (point x) q → LiesIn q x
lies_from_within q x w = record { tlo = w.tlo; thi = w.thi; slo = w.slo; shi = w.shi }

pub within_from_lies : (q : Quad) (x : Transition) → LiesIn q x → IsWithin (point x) q
within_from_lies q x w = record { tlo = w.tlo; thi = w.thi; slo = w.slo; shi = w.shi }

-- ---- answers
-- of transitions of the list that are under way together, the answers say that they overlap
pub record Covers (d : Parts) (b : Answers) (xs : List Transition) : Type 0 where
  pub each : (x y : Transition) → Contains xs x → Contains xs y → AreTogether d.period x y → IsTrue (b x.net x.edge y.net y.edge)

pub all_covers : (d : Parts) (xs : List Transition) → Covers d all_overlap xs
all_covers d xs = record { each = λ x y h k t. refl }

-- the answers of windows that hold the transitions cover them
pub windows_cover : (d : Parts) (W : Assignment) (xs : List Transition) → AreWired d → ((x : Transition) → Contains xs x → IsWithin (point x) (W x.net x.edge))
    → Covers d (overlap_answers d.period W) xs
windows_cover d W xs ws within = record {
  each = λ x y h k t.
      let o : Overlap d.period (point x) (point y) = record { first = point_live x; second = point_live y; meet = t } in
      overlaps_mono d.period (point x) (point y) (W x.net x.edge) (W y.net y.edge) ws.period (within x h) (within y k) ((overlaps_decides d.period (point x) (point y) ws.period).1 o);
}

met_answer : (d : Parts) (b : Answers) (xs : List Transition) (x : Transition) (net : ℕ) (e : Edge) → Covers d b xs → Contains xs x → MeetsOneAt d xs x net e
    → IsTrue (b x.net x.edge net e)
met_answer d b xs x net e cover h m =
    let P : ℕ → Type 0 = λ n. IsTrue (b x.net x.edge n m.other.edge) in
    let Q : Edge → Type 0 = λ f. IsTrue (b x.net x.edge net f) in
    subst Q m.at_edge (subst P m.at_net (cover.each x m.other h m.listed m.together))

-- ---- factors
low_to_mid : (m : MillerNumbers) → IsMiller m → (t : Bool) → (if t then m.low else m.mid) ≤ m.mid
low_to_mid m g true = g.low
low_to_mid m g false = omega arith

low_there : (m : MillerNumbers) (t : Bool) → IsTrue t → (if t then m.low else m.mid) ≤ m.low
low_there m true h = omega arith
low_there m false h = absurd (cc)

low_to_high : (m : MillerNumbers) → IsMiller m → (t : Bool) → (if t then m.low else m.mid) ≤ m.high
low_to_high m g true = omega (arith, g.low, g.mid)
low_to_high m g false = g.mid

mid_to_high : (m : MillerNumbers) → IsMiller m → (t : Bool) → m.mid ≤ (if t then m.high else m.mid)
mid_to_high m g true = g.mid
mid_to_high m g false = omega arith

high_there : (m : MillerNumbers) (t : Bool) → IsTrue t → m.high ≤ (if t then m.high else m.mid)
high_there m true h = omega arith
high_there m false h = absurd (cc)

from_low : (m : MillerNumbers) → IsMiller m → (t : Bool) → m.low ≤ (if t then m.high else m.mid)
from_low m g true = omega (arith, g.low, g.mid)
from_low m g false = g.low

factor_above : (d : Parts) (b : Answers) (xs : List Transition) (x : Transition) (k : Coupling) (m : ℕ) → IsMiller d.miller → Covers d b xs → Contains xs x
    → IsAdmitted d xs x k m → least_factor d.miller b x.net x.edge k ≤ m
factor_above d b xs x k m g cover h (inl e) =
    let P : ℕ → Type 0 = λ i. least_factor d.miller b x.net x.edge k ≤ i in subst P (sym e) (low_to_mid d.miller g (b x.net x.edge k.to.0 x.edge))
factor_above d b xs x k m g cover h (inr (inl a)) =
    let P : ℕ → Type 0 = λ i. least_factor d.miller b x.net x.edge k ≤ i in
    subst P (sym a.0) (low_there d.miller (b x.net x.edge k.to.0 x.edge) (met_answer d b xs x k.to.0 x.edge cover h a.1))
factor_above d b xs x k m g cover h (inr (inr a)) =
    let P : ℕ → Type 0 = λ i. least_factor d.miller b x.net x.edge k ≤ i in subst P (sym a.0) (low_to_high d.miller g (b x.net x.edge k.to.0 x.edge))

factor_below : (d : Parts) (b : Answers) (xs : List Transition) (x : Transition) (k : Coupling) (m : ℕ) → IsMiller d.miller → Covers d b xs → Contains xs x
    → IsAdmitted d xs x k m → m ≤ greatest_factor d.miller b x.net x.edge k
factor_below d b xs x k m g cover h (inl e) =
    let P : ℕ → Type 0 = λ i. i ≤ greatest_factor d.miller b x.net x.edge k in subst P (sym e) (mid_to_high d.miller g (b x.net x.edge k.to.0 (other_edge x.edge)))
factor_below d b xs x k m g cover h (inr (inl a)) =
    let P : ℕ → Type 0 = λ i. i ≤ greatest_factor d.miller b x.net x.edge k in subst P (sym a.0) (from_low d.miller g (b x.net x.edge k.to.0 (other_edge x.edge)))
factor_below d b xs x k m g cover h (inr (inr a)) =
    let P : ℕ → Type 0 = λ i. i ≤ greatest_factor d.miller b x.net x.edge k in
    subst P (sym a.0) (high_there d.miller (b x.net x.edge k.to.0 (other_edge x.edge)) (met_answer d b xs x k.to.0 (other_edge x.edge) cover h a.1))

factors_above : (d : Parts) (b : Answers) (xs : List Transition) (x : Transition) (ks : List Coupling) (ms : List ℕ) → IsMiller d.miller → Covers d b xs → Contains xs x
    → AreAdmitted d xs x ks ms → AreNoGreater (least_factors d.miller b x.net x.edge ks) ms
factors_above d b xs x [] [] g cover h a = tt
factors_above d b xs x [] (m ∷ ms) g cover h a = absurd a
factors_above d b xs x (k ∷ ks) [] g cover h a = absurd a
factors_above d b xs x (k ∷ ks) (m ∷ ms) g cover h a = (factor_above d b xs x k m g cover h a.0, factors_above d b xs x ks ms g cover h a.1)

factors_below : (d : Parts) (b : Answers) (xs : List Transition) (x : Transition) (ks : List Coupling) (ms : List ℕ) → IsMiller d.miller → Covers d b xs → Contains xs x
    → AreAdmitted d xs x ks ms → AreNoGreater ms (greatest_factors d.miller b x.net x.edge ks)
factors_below d b xs x [] [] g cover h a = tt
factors_below d b xs x [] (m ∷ ms) g cover h a = absurd a
factors_below d b xs x (k ∷ ks) [] g cover h a = absurd a
factors_below d b xs x (k ∷ ks) (m ∷ ms) g cover h a = (factor_below d b xs x k m g cover h a.0, factors_below d b xs x ks ms g cover h a.1)

-- ---- loads and wire delays
-- v is from the least to the most of the range
pub record IsOf (r : Range) (v : ℤ) : Type 0 where
  pub least : r.least ≤ℤ v
  pub most : v ≤ℤ r.most

load_of_range : (d : Parts) (b : Answers) (xs : List Transition) (x : Transition) (net : Net) (c : ℤ) → AreWired d → IsWired net → Covers d b xs → Contains xs x
    → IsLoad d xs x c net → IsOf (load_range d.miller b x.net x.edge net) c
load_of_range d b xs x net c ws own cover h l =
    let P : ℤ → Type 0 = λ v. IsOf (load_range d.miller b x.net x.edge net) v in
    subst P (sym l.load) (record {
      least = load_mono (least_factors d.miller b x.net x.edge net.couplings) l.factors net (factors_above d b xs x net.couplings l.factors ws.miller cover h l.admitted) own;
      most = load_mono l.factors (greatest_factors d.miller b x.net x.edge net.couplings) net (factors_below d b xs x net.couplings l.factors ws.miller cover h l.admitted) own;
    })

wire_of_range : (d : Parts) (b : Answers) (xs : List Transition) (x : Transition) (sink : ℕ) (w : ℤ) (o : Option Net) → AreWired d → IfSome o IsWired → Covers d b xs → Contains xs x
    → IsSomeAnd o (IsWireDelay d xs x sink w) → IsOf (wire_range d.miller b x.net x.edge sink o) w
wire_of_range d b xs x sink w None ws own cover h l = absurd l
wire_of_range d b xs x sink w (Some net) ws own cover h l =
    let P : ℤ → Type 0 = λ v. IsOf (wire_range d.miller b x.net x.edge sink (Some net)) v in
    subst P (sym l.delay) (record {
      least = wire_delay_mono (least_factors d.miller b x.net x.edge net.couplings) l.factors net sink (factors_above d b xs x net.couplings l.factors ws.miller cover h l.admitted) own;
      most = wire_delay_mono l.factors (greatest_factors d.miller b x.net x.edge net.couplings) net sink (factors_below d b xs x net.couplings l.factors ws.miller cover h l.admitted) own;
    })

-- ---- one arc
delay_of_range : (o : Option Table) (box : Box) (s c : ℤ) → IsInBox box s c → IsOf (delay_range o box) (cell_delay o s c)
delay_of_range None box s c h = record { least = omega (arith, ints); most = omega (arith, ints) }
delay_of_range (Some t) box s c h = record { least = least_over_below (table_value t) box s c h; most = greatest_over_above (table_value t) box s c h }

slew_of_range : (o : Option Table) (box : Box) (s c : ℤ) → IsInBox box s c → IsOf (slew_range o box) (cell_slew o s c)
slew_of_range None box s c h = record { least = omega (arith, ints); most = omega (arith, ints) }
slew_of_range (Some t) box s c h = record { least = least_over_below (slew_value t) box s c h; most = greatest_over_above (slew_value t) box s c h }

passed : (d : Parts) (a : TimingArc) (q : Quad) (wire load : Range) (y x : Transition) (w c : ℤ) → IsWithin (point y) q → IsOf wire w → IsOf load c
    → x.time ≡ ((y.time +ℤ w) +ℤ cell_delay (slice_get d.tables a.delay) (y.slew +ℤ slew_growth w) c)
    → x.slew ≡ cell_slew (slice_get d.tables a.slew) (y.slew +ℤ slew_growth w) c
    → IsWithin (point x) (contribution_by d a q wire load)
passed d a q wire load y x w c h of_wire of_load time slew =
    let low = slew_growth_mono wire.least w of_wire.least in
    let high = slew_growth_mono w wire.most of_wire.most in
    let inside : IsInBox (arc_box q wire load) (y.slew +ℤ slew_growth w) c =
    record { s_low = omega (arith, ints, h.slo, low); s_high = omega (arith, ints, h.shi, high); c_low = of_load.least; c_high = of_load.most } in
    let of_delay = delay_of_range (slice_get d.tables a.delay) (arc_box q wire load) (y.slew +ℤ slew_growth w) c inside in
    let of_slew = slew_of_range (slice_get d.tables a.slew) (arc_box q wire load) (y.slew +ℤ slew_growth w) c inside in
    record {
      tlo = omega (arith, ints, time, h.tlo, of_wire.least, of_delay.least);
      thi = omega (arith, ints, time, h.thi, of_wire.most, of_delay.most);
      slo = omega (arith, ints, slew, of_slew.least);
      shi = omega (arith, ints, slew, of_slew.most);
    }

-- what transition y makes over an arc lies within what the arc contributes
pub made_within : (d : Parts) (b : Answers) (W : Assignment) (xs : List Transition) (x : Transition) (net : Net) (a : TimingArc) (y : Transition) → AreWired d → IsWired net → Covers d b xs
    → Contains xs x → Contains xs y → IsWithin (point y) (W y.net y.edge) → IsMadeBy d xs net x a y → IsWithin (point x) (contribution d b W x.net net x.edge a)
made_within d b W xs x net a y ws own cover h k inside m =
    let load = load_range d.miller b x.net x.edge net in
    let P : ℕ → Type 0 = λ n. IsWithin (point x) (contribution_by d a (W n y.edge) (wire_range d.miller b n y.edge a.sink (slice_get d.nets n)) load) in
    let Q : Edge → Type 0 = λ e. IsWithin (point x) (contribution_by d a (W a.from.0 e) (wire_range d.miller b a.from.0 e a.sink (slice_get d.nets a.from.0)) load) in
    subst Q m.input_edge (subst P m.input_net
    (passed d a (W y.net y.edge) (wire_range d.miller b y.net y.edge a.sink (slice_get d.nets y.net)) load y x m.w m.c inside
    (wire_of_range d b xs y a.sink m.w (slice_get d.nets y.net) ws (ws.each y.net) cover k m.wire)
    (load_of_range d b xs x net m.c ws own cover h m.load) m.time m.slew))
