-- The operator at one net, from the join over its arcs.
use Rattle.std.proofs.Common.{◌≡◌, ℕ, ◌+◌, ◌<◌, inl, inr, refl, sym, ap, ◌∙◌, List, [], ◌∷◌, length, get_or, take, ℤ, arith}
use Rattle.std.specs.Prelude.{Option, Some, None, IfSome}
use Rattle.std.specs.Option.{IsSomeAnd}
use Rattle.std.specs.List.{All, slice_get, fold}
use Rattle.std.proofs.lemmas.Int.{ints}
use Rattle.std.proofs.lemmas.List.Sums.{fold_more}
use Rattle.xt_model.specs.declared.edge.Edge.{Edge}
use Rattle.xt_model.specs.declared.edge.Edge.TheVariants.{Rise, Fall}
use Rattle.xt_model.specs.declared.quad.Quad.{Quad}
use Rattle.xt_model.specs.declared.quad.Pair.{Pair}
use Rattle.xt_model.specs.declared.net.Net.{Net}
use Rattle.xt_model.specs.declared.net.TimingArc.{TimingArc}
use Rattle.xt_model.specs.Quads.{bottom, IsInRange, IsLive, quad_at}
use Rattle.xt_model.specs.Parts.{Parts}
use Rattle.xt_model.specs.Sound.{HasSink, IsSoundNet, IsGiven}
use Rattle.xt_model.specs.Assign.{quads_of}
use Rattle.xt_meaning.specs.Operator.{Range, wire_range, arcs_quad, operator_by}
use Rattle.xt_meaning.specs.Reads.{HoldsOfReads, HoldsOfArcReads}
use Rattle.xt_meaning.specs.Wires.{wire_delay}
use Rattle.xt_meaning.proofs.Starts.{bottom_in_range}
use Rattle.xt_meaning.proofs.Extremes.{same_pair}
use Rattle.miller_bits.specs.declared.overlaps.Overlaps.{Overlaps}
use Rattle.miller_bits.specs.Victims.{VictimEdge, victim_of}
use Rattle.miller_bits.specs.Views.{HasNet, HasVictim, answers_by}
use Rattle.miller_bits.proofs.Sums.{found, held}
use Rattle.net_eval.specs.Arcs.{joined, load_in, wire_of, with_arc_at}
use Rattle.net_eval.specs.Room.{FitsWire}
use Rattle.net_eval.specs.Pins.{IsInputPin, IsPin, IsPinEdge, edge_of_pin, wire_to}
use Rattle.net_eval.specs.declared.pin.Pin.{Pin}
use Rattle.net_eval.specs.declared.pin.PinEdge.{PinEdge}
use Rattle.net_eval.specs.Scenes.{Scene, operator_in, pair_in, scene_of, IsReady}
use Rattle.net_eval.specs.Tables.{AreTables, AreTablesOf}
use Rattle.net_eval.specs.declared.tables.EdgeTables.{EdgeTables}

arcs_is : (s : Scene) (n : ℕ) (net : Net) (e : Edge) (arcs : List TimingArc) → 0 < length arcs
    → arcs_quad s.design s.answers s.windows n net e arcs ≡ fold (with_arc_at s e (load_in s n e net)) bottom arcs
arcs_is s n net e [] some = absurd (omega arith)
arcs_is s n net e (a ∷ more) some = refl

none_is : (s : Scene) (n : ℕ) (net : Net) (e : Edge) (arcs : List TimingArc) → length arcs ≡ 0 → arcs_quad s.design s.answers s.windows n net e arcs ≡ quad_at net.given e
none_is s n net e [] none = refl
none_is s n net e (a ∷ more) none = absurd (omega arith)

pub operator_is : (s : Scene) (n : ℕ) (e : Edge) (net : Net) (q : Quad) → slice_get s.design.nets n ≡ Some net → 0 < length net.arcs
    → q ≡ fold (with_arc_at s e (load_in s n e net)) bottom net.arcs → q ≡ operator_in s n e
unfolding operator_by
operator_is s n e net q there some is = rw there (is ∙ sym (arcs_is s n net e net.arcs some))

pub source_is : (s : Scene) (n : ℕ) (e : Edge) (net : Net) (q : Quad) → slice_get s.design.nets n ≡ Some net → length net.arcs ≡ 0 → q ≡ quad_at net.given e → q ≡ operator_in s n e
unfolding operator_by
source_is s n e net q there none is = rw there (is ∙ sym (none_is s n net e net.arcs none))

-- ---- what a source is given fits words
given_in_range : (q : Quad) → IsGiven q → IsInRange q
given_in_range q (inl same) = rw same bottom_in_range
given_in_range q (inr h) = record {
  tlo = record { low = omega (arith, ints, h.tlo.least); high = omega (arith, ints, h.tlo.most) };
  thi = record { low = omega (arith, ints, h.thi.least); high = omega (arith, ints, h.thi.most) };
  slo = record { low = omega (arith, ints, h.slo.least); high = omega (arith, ints, h.slo.most) };
  shi = record { low = omega (arith, ints, h.shi.least); high = omega (arith, ints, h.shi.most) };
}

pub source_in_range : (d : Parts) (own : ℕ) (n : Net) (e : Edge) → IsSoundNet d own n → IsInRange (quad_at n.given e)
source_in_range d own n Rise s = given_in_range n.given.rise s.rise
source_in_range d own n Fall s = given_in_range n.given.fall s.fall

-- ---- the words of a net with arcs and of its couplings' nets
pub own_words : (has : ℕ → Type 0) (d : Parts) (n : ℕ) (e : Edge) (net : Net) → slice_get d.nets n ≡ Some net → HoldsOfReads (HasNet has) d n → 0 < length net.arcs → HasVictim has d n e
own_words has d n e net there reads some =
    let looks = found (λ net. All (HoldsOfArcReads (HasNet has) d n net) net.arcs) (slice_get d.nets n) net there reads.arcs in
    let first = looks 0 no_arc some in
    record { own = first.own e; aggressors = held _ (slice_get d.nets n) net there first.aggressors } where
      no_arc : TimingArc
      no_arc = record { from = record { 0 = 0 }; sink = 0; input = Rise; output = Rise; delay = 0; slew = 0 }

-- ---- a pin
victim_window : (o : Overlaps) (d : Parts) (f : ℕ → ℤ) (n : ℕ) (e : Edge) (sink : ℕ) (v : VictimEdge) (net : Option Net) → IsSomeAnd net (λ m. sink < length m.sinks)
    → IfSome net (λ m. v ≡ victim_of o d f n e m) → v.window ≡ quads_of f n e
victim_window o d f n e sink v None there is = absurd there
victim_window o d f n e sink v (Some m) there is = rw is refl

victim_wire : (o : Overlaps) (d : Parts) (f : ℕ → ℤ) (n : ℕ) (e : Edge) (sink : ℕ) (v : VictimEdge) (net : Option Net) → IsSomeAnd net (λ m. sink < length m.sinks)
    → IfSome net (λ m. v ≡ victim_of o d f n e m) → wire_of v sink ≡ wire_range d.miller (answers_by o d f) n e sink net
victim_wire o d f n e sink v None there is = absurd there
victim_wire o d f n e sink v (Some m) there is = rw is refl

-- it is the victim of this edge of a net
abbrev IsVictimAt : Overlaps → Parts → (ℕ → ℤ) → ℕ → Edge → VictimEdge → Type 0
IsVictimAt o d f n e v = IfSome (slice_get d.nets n) (λ m. v ≡ victim_of o d f n e m)

-- two edges of one net are edges of the same net
both_nets : (o : Overlaps) (d : Parts) (f : ℕ → ℤ) (n : ℕ) (e g : Edge) (v w : VictimEdge) (net : Option Net) (sink : ℕ) → IsSomeAnd net (λ m. sink < length m.sinks)
    → IfSome net (λ m. v ≡ victim_of o d f n e m) → IfSome net (λ m. w ≡ victim_of o d f n g m) → w.net ≡ v.net
both_nets o d f n e g v w None sink there p q = absurd there
both_nets o d f n e g v w (Some m) sink there p q = rw (p, q) refl

pub same_net : (o : Overlaps) (d : Parts) (f : ℕ → ℤ) (n : ℕ) (e g : Edge) (v w : VictimEdge) (sink : ℕ) → HasSink d n sink → IsVictimAt o d f n e v → IsVictimAt o d f n g w → w.net ≡ v.net
same_net o d f n e g v w sink there p q = both_nets o d f n e g v w (slice_get d.nets n) sink there p q

sink_in : (o : Overlaps) (d : Parts) (f : ℕ → ℤ) (n : ℕ) (e : Edge) (v : VictimEdge) (net : Option Net) (sink : ℕ) → IsSomeAnd net (λ m. sink < length m.sinks)
    → IfSome net (λ m. v ≡ victim_of o d f n e m) → sink < length v.net.sinks
sink_in o d f n e v None sink there is = absurd there
sink_in o d f n e v (Some m) sink there is = rw is there

pub sink_there : (o : Overlaps) (d : Parts) (f : ℕ → ℤ) (n : ℕ) (e : Edge) (v : VictimEdge) (sink : ℕ) → HasSink d n sink → IsVictimAt o d f n e v → sink < length v.net.sinks
sink_there o d f n e v sink there is = sink_in o d f n e v (slice_get d.nets n) sink there is

-- an edge of a pin, from the victim
pub pin_edge : (o : Overlaps) (d : Parts) (f : ℕ → ℤ) (n : ℕ) (e : Edge) (v : VictimEdge) (sink : ℕ) (p : PinEdge) → HasSink d n sink → IsVictimAt o d f n e v
    → p.window ≡ v.window → p.least_wire ≡ wire_delay v.least v.net sink → p.greatest_wire ≡ wire_delay v.greatest v.net sink → IsPinEdge (scene_of o d f) n sink e p
pin_edge o d f n e v sink p there is window least greatest = record {
  window = window ∙ victim_window o d f n e sink v (slice_get d.nets n) there is;
  wire = (let wire : wire_to p ≡ wire_of v sink = rw (least, greatest) refl in wire ∙ victim_wire o d f n e sink v (slice_get d.nets n) there is);
}

both_edges : (s : Scene) (n sink : ℕ) (p : Pin) → IsPinEdge s n sink Rise p.rise → IsPinEdge s n sink Fall p.fall → (e : Edge) → IsPinEdge s n sink e (edge_of_pin p e)
both_edges s n sink p r f Rise = r
both_edges s n sink p r f Fall = f

pub pin_of : (s : Scene) (n sink : ℕ) (p : Pin) → p.net ≡ n → p.sink ≡ sink → IsPinEdge s n sink Rise p.rise → IsPinEdge s n sink Fall p.fall → IsPin s p
pin_of s n sink p net_is sink_is r f = record { edges = rw (net_is, sink_is) (both_edges s n sink p r f) }

pub input_pin : (s : Scene) (a : TimingArc) (p : Pin) → IsPin s p → p.net ≡ a.from.0 → p.sink ≡ a.sink → IsInputPin s a p
input_pin s a p pin net_is sink_is = record { pin = pin; edges = rw (net_is, sink_is) at pin.edges }

-- ---- an arc
pub ready_at : (has : ℕ → Type 0) (s : Scene) (xs arcs : List TimingArc) (i : ℕ) (a : TimingArc) → All (IsReady has s) arcs → xs ≡ arcs → i < length xs → IsReady has s (get_or xs i a)
ready_at has s xs arcs i a ready same i_in = rw same (ready i a (rw same at i_in))

-- the window at its input fits the wire before it
pub input_fits : (has : ℕ → Type 0) (s : Scene) (a : TimingArc) (p : PinEdge) → IsReady has s a → IsPinEdge s a.from.0 a.sink a.input p → IsLive p.window → FitsWire p.window (wire_to p)
input_fits has s a p ready pin live =
    let window = pin.window in let wire = pin.wire in
    rw (window, wire) (ready.room (rw window at live))

-- an edge of that pin
pub edge_at : (s : Scene) (a : TimingArc) (p : Pin) (e : Edge) (q : PinEdge) → IsInputPin s a p → q ≡ edge_of_pin p e → IsPinEdge s a.from.0 a.sink e q
edge_at s a p e q h is = rw is (h.edges e)

joined_is : (s : Scene) (e : Edge) (load : Range) (q : Quad) (a : TimingArc) (input : Quad) (wire : Range) → input ≡ s.windows a.from.0 a.input
    → wire ≡ wire_range s.design.miller s.answers a.from.0 a.input a.sink (slice_get s.design.nets a.from.0) → joined s.design e load q a input wire ≡ with_arc_at s e load q a
joined_is s e load q a input wire is_input is_wire = rw (is_input, is_wire) refl

-- the join over one arc more
pub arc_turn : (s : Scene) (e : Edge) (load : Range) (xs : List TimingArc) (i : ℕ) (a : TimingArc) (q r : Quad) (p : PinEdge) → i < length xs
    → IsPinEdge s (get_or xs i a).from.0 (get_or xs i a).sink (get_or xs i a).input p → r ≡ joined s.design e load q (get_or xs i a) p.window (wire_to p)
    → q ≡ fold (with_arc_at s e load) bottom (take i xs) → r ≡ fold (with_arc_at s e load) bottom (take (i + 1) xs)
arc_turn s e load xs i a q r p i_in pin joins before =
    let arc = get_or xs i a in
    let step = joined_is s e load q arc p.window (wire_to p) pin.window pin.wire in
    let more = fold_more (with_arc_at s e load) bottom xs i a i_in in
    joins ∙ (step ∙ (ap (λ p. with_arc_at s e load p arc) before ∙ sym more))

-- tables of an edge are those of an arc with their numbers
pub tables_named : (d : Parts) (a : TimingArc) (r : Range) (t : EdgeTables) → AreTables d r t → t.delay ≡ a.delay → t.slew ≡ a.slew → AreTablesOf d a r t
tables_named d a r t h delay slew = record { tables = h; named = rw (delay, slew) at h.numbered }

-- a pair of what the operator makes of both edges
pub pair_is : (s : Scene) (n : ℕ) (p : Pair) → p.rise ≡ operator_in s n Rise → p.fall ≡ operator_in s n Fall → p ≡ pair_in s n
pair_is s n p r f = same_pair p (pair_in s n) r f
