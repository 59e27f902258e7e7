-- The window at a sink, from the victim that drives it.
use Rattle.std.proofs.Common.{◌≡◌, ℕ, ◌+◌, ◌^◌, ◌<◌, ◌≤◌, refl, sym, ap, subst, ◌∙◌, true, false, List, length, to_z, of_z, w64, ℤ, pos, neg_ℤ, ◌+ℤ◌, ◌≤ℤ◌, arith}
use Rattle.std.specs.Prelude.{Option, Some, None, IfSome, IsTrue}
use Rattle.std.specs.Option.{IsSomeAnd}
use Rattle.std.specs.Int.Signed.{mag}
use Rattle.std.specs.List.{slice_get}
use Rattle.std.proofs.lemmas.Int.{ints}
use Rattle.xt_model.specs.declared.edge.Edge.{Edge}
use Rattle.xt_model.specs.declared.quad.Quad.{Quad}
use Rattle.xt_model.specs.declared.quad.Pair.{Pair}
use Rattle.xt_model.specs.declared.net.Net.{Net}
use Rattle.xt_model.specs.Quads.{is_live, IsLive}
use Rattle.xt_model.specs.Parts.{Parts}
use Rattle.xt_model.specs.Miller.{MillerNumbers}
use Rattle.xt_model.specs.Sound.{IsSound, IsSoundNet, IsConstraint, IsTime, IsSlew, HasSink}
use Rattle.xt_model.specs.Assign.{Assignment, assigned, words_of, quads_of}
use Rattle.xt_meaning.specs.Wires.{wire_delay, slew_growth}
use Rattle.xt_meaning.specs.Overlap.{Answers, overlap_answers, all_overlap, least_factors, greatest_factors}
use Rattle.xt_meaning.specs.Operator.{Range, wire_range}
use Rattle.xt_meaning.specs.Envelope.{greatest_wire}
use Rattle.xt_meaning.specs.Barrier.{IsWithinEnvelope}
use Rattle.xt_meaning.specs.Laws.{HasRoom}
use Rattle.xt_meaning.proofs.Order.{ordered_from_live, live_from_ordered}
use Rattle.xt_meaning.proofs.Growth.{IsImpliedAt, IsWired, wired, greatest_factors_rise, factors_ordered, wire_delay_mono, slew_growth_mono}
use Rattle.xt_meaning.proofs.Room.{wire_delay_natural, slew_growth_natural}
use Rattle.xt_meaning.proofs.Limits.{room_at, sound_at}
use Rattle.miller_bits.specs.declared.overlaps.Overlaps.TheVariants.{OfWindows}
use Rattle.miller_bits.specs.Victims.{VictimEdge, victim_of}
use Rattle.miller_bits.proofs.Sums.{found}
use Rattle.net_eval.specs.Arcs.{wire_of}
use Rattle.net_eval.specs.Room.{FitsWire}
use Rattle.net_eval.proofs.Rooms.{room_fits}
use Rattle.sink_windows.specs.declared.sink.SinkWindow.{SinkWindow}
use Rattle.sink_windows.specs.Sinks.{wire_in, behind, with_wire, sink_window}
use Rattle.sink_windows.proofs.Victims.{quads_here}

-- ---- numbers as they are stored
pub kept_mag : (x : ℤ) → mag x < 9223372036854775808 → to_z w64 (of_z w64 x) ≡ x
kept_mag x h = omega (arith, ints, h)

pub kept_time : (x : ℤ) → IsTime x → to_z w64 (of_z w64 x) ≡ x
kept_time x h = omega (arith, ints, h.least, h.most)

pub kept_slew : (x : ℤ) → IsSlew x → to_z w64 (of_z w64 x) ≡ x
kept_slew x h = omega (arith, ints, h.least, h.most)

pub kept_wire : (x : ℤ) → pos 0 ≤ℤ x → x ≤ℤ pos (2 ^ 47) → to_z w64 (of_z w64 x) ≡ x
kept_wire x h k = omega (arith, ints, h, k)

kept_later : (t w : ℤ) → IsTime t → pos 0 ≤ℤ w → w ≤ℤ pos (2 ^ 47) → to_z w64 (of_z w64 (to_z w64 (of_z w64 t) +ℤ to_z w64 (of_z w64 w))) ≡ t +ℤ w
kept_later t w h low high =
    let e = kept_time t h in
    let f = kept_wire w low high in
    rw (e, f) (omega (arith, ints, h.least, h.most, low, high))

pub behind_is : (q : Quad) (w0 w1 slo shi : ℤ) → FitsWire q (record { least = w0; most = w1 }) → slo ≡ q.slo +ℤ slew_growth w0 → shi ≡ q.shi +ℤ slew_growth w1
    → ◌≡◌ {A = Quad} (record {
      tlo = to_z w64 (of_z w64 (to_z w64 (of_z w64 q.tlo) +ℤ to_z w64 (of_z w64 w0)));
      thi = to_z w64 (of_z w64 (to_z w64 (of_z w64 q.thi) +ℤ to_z w64 (of_z w64 w1)));
      slo = slo;
      shi = shi;
    }) (behind q (record { least = w0; most = w1 }))
behind_is q w0 w1 slo shi f slo_is shi_is =
    let a = kept_later q.tlo w0 f.driver.tlo f.low (omega (arith, ints, f.ordered, f.high)) in
    let b = kept_later q.thi w1 f.driver.thi (omega (arith, ints, f.ordered, f.low)) f.high in
    rw (a, b, slo_is, shi_is) refl

-- ---- the victim
-- an edge of a net as the victim in these windows
abbrev victim_in : Parts → Assignment → ℕ → Edge → Net → VictimEdge
victim_in d W n e net = record {
  miller = d.miller;
  number = n;
  window = W n e;
  net = net;
  least = least_factors d.miller (overlap_answers d.period W) n e net.couplings;
  greatest = greatest_factors d.miller (overlap_answers d.period W) n e net.couplings;
}

-- r is the victim of an edge of a net that is there and has a sink of this number
pub record IsVictimAt (d : Parts) (W : Assignment) (n : ℕ) (e : Edge) (sink : ℕ) (r : VictimEdge) : Type 0 where
  pub net : Net
  pub there : slice_get d.nets n ≡ Some net
  pub has : sink < length net.sinks
  pub is : r ≡ victim_in d W n e net

victim_found : (d : Parts) (v : List Pair) (n : ℕ) (e : Edge) (sink : ℕ) (r : VictimEdge) (o : Option Net) → slice_get d.nets n ≡ o → IsSomeAnd o (λ m. sink < length m.sinks)
    → IfSome o (λ net. r ≡ victim_of OfWindows d (words_of (assigned v)) n e net) → IsVictimAt d (assigned v) n e sink r
victim_found d v n e sink r None there has is = absurd has
victim_found d v n e sink r (Some net) there has is =
    let P : Assignment → Type 0 = λ W. r ≡ victim_in d W n e net in
    record { net = net; there = there; has = has; is = subst P (quads_here v) is }

pub victim_at : (d : Parts) (v : List Pair) (n : ℕ) (e : Edge) (sink : ℕ) (r : VictimEdge) → HasSink d n sink
    → IfSome (slice_get d.nets n) (λ net. r ≡ victim_of OfWindows d (words_of (assigned v)) n e net) → IsVictimAt d (assigned v) n e sink r
victim_at d v n e sink r has is = victim_found d v n e sink r (slice_get d.nets n) refl has is

pub window_is : (d : Parts) (W : Assignment) (n : ℕ) (e : Edge) (sink : ℕ) (r : VictimEdge) → IsVictimAt d W n e sink r → r.window ≡ W n e
window_is d W n e sink r h = ap (λ v. v.window) h.is

pub wire_is : (d : Parts) (W : Assignment) (n : ℕ) (e : Edge) (sink : ℕ) (r : VictimEdge) → IsVictimAt d W n e sink r → wire_of r sink ≡ wire_in d W n e sink
wire_is d W n e sink r h =
    let a : wire_of r sink ≡ wire_of (victim_in d W n e h.net) sink = ap (λ v. wire_of v sink) h.is in
    let P : Option Net → Type 0 = λ o. wire_of r sink ≡ wire_range d.miller (overlap_answers d.period W) n e sink o in
    subst P (sym h.there) a

pub has_sink : (d : Parts) (W : Assignment) (n : ℕ) (e : Edge) (sink : ℕ) (r : VictimEdge) → IsVictimAt d W n e sink r → sink < length r.net.sinks
has_sink d W n e sink r h = let P : VictimEdge → Type 0 = λ v. sink < length v.net.sinks in subst P (sym h.is) h.has

-- ---- room
room_there : (d : Parts) (v : List Pair) (n : ℕ) (e : Edge) (sink : ℕ) (r : VictimEdge) → IsSound d → IsWithinEnvelope d v → (h : IsVictimAt d (assigned v) n e sink r) → IsLive (assigned v n e) → HasRoom d.miller h.net (assigned v n e)
room_there d v n e sink r s w h live = room_at d w.top n e h.net (assigned v n e) s w.envelope.widest w.accepted h.there (w.contained.each n e) live

fits_in : (d : Parts) (v : List Pair) (n : ℕ) (e : Edge) (sink : ℕ) (r : VictimEdge) → IsSound d → IsWithinEnvelope d v → IsVictimAt d (assigned v) n e sink r → IsLive (assigned v n e) → FitsWire (assigned v n e) (wire_in d (assigned v) n e sink)
fits_in d v n e sink r s w h live =
    let b = overlap_answers d.period (assigned v) in
    let P : Option Net → Type 0 = λ o. FitsWire (assigned v n e) (wire_range d.miller b n e sink o) in
    subst P (sym h.there) (room_fits d n h.net b e sink (assigned v n e) s.miller (sound_at d n h.net s h.there) h.has (room_there d v n e sink r s w h live))

-- a live window fits the wire behind it
pub fits_at : (d : Parts) (v : List Pair) (n : ℕ) (e : Edge) (sink : ℕ) (r : VictimEdge) → IsSound d → IsWithinEnvelope d v → IsVictimAt d (assigned v) n e sink r → IsLive r.window
    → FitsWire r.window (wire_of r sink)
fits_at d v n e sink r s w h live =
    let q_is = window_is d (assigned v) n e sink r h in
    let w_is = wire_is d (assigned v) n e sink r h in
    let P : Range → Type 0 = λ x. FitsWire r.window x in
    let Q : Quad → Type 0 = λ q. FitsWire q (wire_in d (assigned v) n e sink) in
    subst P (sym w_is) (subst Q (sym q_is) (fits_in d v n e sink r s w h (subst IsLive q_is live)))

-- so it is with copies of the two
pub fits_parts : (d : Parts) (v : List Pair) (n : ℕ) (e : Edge) (sink : ℕ) (r : VictimEdge) (q : Quad) (w : Range) → IsSound d → IsWithinEnvelope d v → IsVictimAt d (assigned v) n e sink r → IsLive q
    → q ≡ r.window → w ≡ wire_of r sink → FitsWire q w
fits_parts d v n e sink r q w s within h live q_is w_is =
    let P : Range → Type 0 = λ x. FitsWire q x in
    let Q : Quad → Type 0 = λ p. FitsWire p (wire_of r sink) in
    subst P (sym w_is) (subst Q (sym q_is) (fits_at d v n e sink r s within h (subst IsLive q_is live)))

-- a window with room at a sink is in its ranges there
plain_room : (q : Quad) (w0 w1 g0 g1 gm wm : ℤ) → IsConstraint q → q.tlo ≤ℤ q.thi → q.slo ≤ℤ q.shi → pos 0 ≤ℤ w0 → w0 ≤ℤ w1 → w1 ≤ℤ wm → pos 0 ≤ℤ g0 → g0 ≤ℤ g1 → g1 ≤ℤ gm
    → IsTime (q.thi +ℤ wm) → IsSlew (q.shi +ℤ gm) → IsLive (record { tlo = q.tlo +ℤ w0; thi = q.thi +ℤ w1; slo = q.slo +ℤ g0; shi = q.shi +ℤ g1 })
    → IsConstraint (record { tlo = q.tlo +ℤ w0; thi = q.thi +ℤ w1; slo = q.slo +ℤ g0; shi = q.shi +ℤ g1 })
plain_room q w0 w1 g0 g1 gm wm d times slews low ordered below least grown most time slew live = record {
  live = live;
  tlo = record { least = omega (arith, ints, d.tlo.least, low); most = omega (arith, ints, times, ordered, below, time.most) };
  thi = record { least = omega (arith, ints, d.thi.least, low, ordered); most = omega (arith, ints, below, time.most) };
  slo = record { least = omega (arith, ints, d.slo.least, least); most = omega (arith, ints, slews, grown, most, slew.most) };
  shi = record { least = omega (arith, ints, d.shi.least, least, grown); most = omega (arith, ints, most, slew.most) };
}

plain_ordered : (a b x y : ℤ) → a ≤ℤ b → x ≤ℤ y → (a +ℤ x) ≤ℤ (b +ℤ y)
plain_ordered a b x y h k = omega (arith, ints, h, k)

room_behind : (d : Parts) (n : ℕ) (net : Net) (b : Answers) (e : Edge) (sink : ℕ) (q : Quad) → IsSound d → slice_get d.nets n ≡ Some net → sink < length net.sinks → HasRoom d.miller net q
    → IsConstraint (behind q (wire_range d.miller b n e sink (Some net)))
room_behind d n net b e sink q s there sink_in r =
    let sound = sound_at d n net s there in
    let ks = net.couplings in
    let f = room_fits d n net b e sink q s.miller sound sink_in r in
    let w = wire_range d.miller b n e sink (Some net) in
    let wm = greatest_wire d.miller net sink in
    let implied : IsImpliedAt b all_overlap n ks = record { each = λ e f k x h t. refl } in
    let below : w.most ≤ℤ wm =
    wire_delay_mono (greatest_factors d.miller b n e ks) (greatest_factors d.miller all_overlap n e ks) net sink (greatest_factors_rise d.miller b all_overlap n e ks s.miller implied)
    (found IsWired (slice_get d.nets n) net there ((wired d s).each n)) in
    let o = ordered_from_live q r.driver.live in
    let grown = slew_growth_mono w.least w.most f.ordered in
    let most = slew_growth_mono w.most wm below in
    plain_room q w.least w.most (slew_growth w.least) (slew_growth w.most) (slew_growth wm) wm r.driver o.times o.slews f.low f.ordered below (slew_growth_natural w.least f.low) grown most
    (r.arrivals sink sink_in) (r.slews sink sink_in)
    (live_from_ordered (behind q w) (record { times = plain_ordered q.tlo q.thi w.least w.most o.times f.ordered; slews = plain_ordered q.slo q.shi (slew_growth w.least) (slew_growth w.most) o.slews grown }))

room_in : (d : Parts) (v : List Pair) (n : ℕ) (e : Edge) (sink : ℕ) (r : VictimEdge) → IsSound d → IsWithinEnvelope d v → IsVictimAt d (assigned v) n e sink r → IsLive (assigned v n e)
    → IsConstraint (behind (assigned v n e) (wire_in d (assigned v) n e sink))
room_in d v n e sink r s w h live =
    let b = overlap_answers d.period (assigned v) in
    let P : Option Net → Type 0 = λ o. IsConstraint (behind (assigned v n e) (wire_range d.miller b n e sink o)) in
    subst P (sym h.there) (room_behind d n h.net b e sink (assigned v n e) s h.there h.has (room_there d v n e sink r s w h live))

-- what was made of the victim's window and wire is in its ranges
pub limits_at : (d : Parts) (v : List Pair) (n : ℕ) (e : Edge) (sink : ℕ) (r : VictimEdge) (q at : Quad) (w : Range) → IsSound d → IsWithinEnvelope d v → IsVictimAt d (assigned v) n e sink r
    → IsLive q → q ≡ r.window → w ≡ wire_of r sink → at ≡ behind q w → IsConstraint at
limits_at d v n e sink r q at w s within h live q_is w_is at_is =
    let a : q ≡ assigned v n e = q_is ∙ window_is d (assigned v) n e sink r h in
    let b : w ≡ wire_in d (assigned v) n e sink = w_is ∙ wire_is d (assigned v) n e sink r h in
    let P : Quad → Type 0 = λ p. IsConstraint p in
    let c : at ≡ behind (assigned v n e) (wire_in d (assigned v) n e sink) = at_is ∙ (rw (a, b) refl) in
    subst P (sym c) (room_in d v n e sink r s within h (subst IsLive a live))

-- a window at a sink from its parts
same_sink : (q : Quad) (at : Quad) (w : Range) (x0 x1 : ℤ) → at ≡ behind q w → x0 ≡ w.least → x1 ≡ w.most → ◌≡◌ {A = SinkWindow} (record { window = at; least_wire = x0; greatest_wire = x1 }) (with_wire q w)
same_sink q at w x0 x1 at_is x0_is x1_is = rw (at_is, x0_is, x1_is) refl

pub some_at : (d : Parts) (W : Assignment) (n : ℕ) (e : Edge) (sink : ℕ) (r : VictimEdge) (q : Quad) (w : Range) (s : SinkWindow) → IsVictimAt d W n e sink r
    → IsLive q → q ≡ r.window → w ≡ wire_of r sink → s ≡ with_wire q w → Some s ≡ sink_window d W n e sink
some_at d W n e sink r q w s h live q_is w_is s_is =
    let a : q ≡ W n e = q_is ∙ window_is d W n e sink r h in
    let b : w ≡ wire_in d W n e sink = w_is ∙ wire_is d W n e sink r h in
    let t : is_live (W n e) ≡ true = subst (λ p. is_live p ≡ true) a live in
    let c : s ≡ with_wire (W n e) (wire_in d W n e sink) = s_is ∙ (rw (a, b) refl) in
    rw t (ap (λ x. Some x) c)

pub same_stored : (q : Quad) (at : Quad) (w0 w1 : ℤ) → at ≡ behind q (record { least = w0; most = w1 }) → FitsWire q (record { least = w0; most = w1 })
    → ◌≡◌ {A = SinkWindow} (record { window = at; least_wire = to_z w64 (of_z w64 w0); greatest_wire = to_z w64 (of_z w64 w1) }) (with_wire q (record { least = w0; most = w1 }))
same_stored q at w0 w1 at_is f =
    same_sink q at (record { least = w0; most = w1 }) _ _ at_is (kept_wire w0 f.low (omega (arith, ints, f.ordered, f.high))) (kept_wire w1 (omega (arith, ints, f.ordered, f.low)) f.high)

pub none_at : (d : Parts) (W : Assignment) (n : ℕ) (e : Edge) (sink : ℕ) (r : VictimEdge) (q : Quad) → IsVictimAt d W n e sink r → is_live q ≡ false → q ≡ r.window
    → None ≡ sink_window d W n e sink
none_at d W n e sink r q h dead q_is =
    let a : is_live (W n e) ≡ false = subst (λ p. is_live p ≡ false) (q_is ∙ window_is d W n e sink r h) dead in
    rw a refl
