-- A window that lies within another one keeps the limits that this one keeps.
use Rattle.std.proofs.Common.{◌≡◌, ℕ, zero, suc, ◌<◌, inl, inr, Bool, true, refl, sym, subst, ◌∙◌, [], ◌∷◌, ◌++◌, length, map, ℤ, pos, neg_ℤ, ◌+ℤ◌, ◌≤ℤ◌, arith}
use Rattle.std.specs.Prelude.{int_le, Option, Some, None, Ok, cond}
use Rattle.std.proofs.lemmas.Bool.{cases_Bool}
use Rattle.std.proofs.lemmas.Int.{ints, clamps}
use Rattle.std.specs.List.{AllPass, slice_get}
use Rattle.std.proofs.lemmas.Option.{slice_get_cases}
use Rattle.std.proofs.lemmas.List.Elements.{All-nil, All-cons, All-head, All-tail}
use Rattle.xt_model.specs.declared.quad.Quad.{Quad}
use Rattle.xt_model.specs.declared.quad.Pair.{Pair}
use Rattle.xt_model.specs.declared.net.Net.{Net}
use Rattle.xt_model.specs.Quads.{is_live, IsLive, IsWithin, IsInRange, IsPairInRange, join_of}
use Rattle.xt_model.specs.Limits.{most_time, most_slew}
use Rattle.xt_model.specs.Miller.{MillerNumbers}
use Rattle.xt_model.specs.Parts.{Parts}
use Rattle.xt_model.specs.Sound.{IsSound, IsSoundNet, IsTime}
use Rattle.xt_meaning.specs.Wires.{slew_growth}
use Rattle.xt_meaning.specs.Envelope.{Test, TimeAt, SlewAt, keeps, greatest_wire, sink_tests, all_sink_tests, quad_tests, first_over}
use Rattle.xt_meaning.proofs.Order.{true_both, both_true, test_from_le, le_from_test, ordered_from_live, live_mono, join_left}
use Rattle.xt_meaning.proofs.Growth.{slew_growth_mono}
use Rattle.xt_meaning.proofs.Room.{wire_delay_natural, IsAcceptedQuad, accepted_quad}
use Rattle.miller_bits.proofs.Sums.{found}
use Rattle.envelope.specs.Firsts.{driver_tests, wire_tests, pair_tests}
use Rattle.envelope.specs.Greatest.{AreWiresToSinksAtMost, AreWiresAtMost}
use Rattle.envelope.proofs.Firsts.{all_passed, none_over, over_on, pair_tested}

abbrev Kept : Test → Type 0
Kept t = keeps t ≡ true

time_keeps : (n : ℕ) (t : ℤ) → IsTime t → Kept (TimeAt n t)
time_keeps n t h = true_both (int_le (neg_ℤ most_time) t) (int_le t most_time) (test_from_le (neg_ℤ most_time) t h.least) (test_from_le t most_time h.most)

slew_keeps : (n : ℕ) (s : ℤ) → s ≤ℤ most_slew → Kept (SlewAt n s)
slew_keeps n s h = test_from_le s most_slew h

time_kept : (n : ℕ) (t : ℤ) → Kept (TimeAt n t) → IsTime t
time_kept n t h =
    let p = both_true (int_le (neg_ℤ most_time) t) (int_le t most_time) h in
    record { least = le_from_test (neg_ℤ most_time) t p.0; most = le_from_test t most_time p.1 }

slew_kept : (n : ℕ) (s : ℤ) → Kept (SlewAt n s) → s ≤ℤ most_slew
slew_kept n s h = le_from_test s most_slew h

-- what the sinks below a number keep, from the time and the slew at each
sinks_keep : (m : MillerNumbers) (n : ℕ) (net : Net) (q : Quad) (sinks : ℕ)
    → ((sink : ℕ) → sink < sinks → IsTime (q.thi +ℤ greatest_wire m net sink)) → ((sink : ℕ) → sink < sinks → (q.shi +ℤ slew_growth (greatest_wire m net sink)) ≤ℤ most_slew)
    → None ≡ first_over (all_sink_tests m n net q sinks)
sinks_keep m n net q zero times slews = refl
sinks_keep m n net q (suc sinks) times slews =
    let g = greatest_wire m net sinks in
    let below = sinks_keep m n net q sinks (λ sink p. times sink (omega (arith, p))) (λ sink p. slews sink (omega (arith, p))) in
    let time = time_keeps n (q.thi +ℤ g) (times sinks (omega arith)) in
    let slew = slew_keeps n (q.shi +ℤ slew_growth g) (slews sinks (omega arith)) in
    let here = none_over (sink_tests m n net q sinks)
    (All-cons Kept (TimeAt n (q.thi +ℤ g)) (SlewAt n (q.shi +ℤ slew_growth g) ∷ []) time (All-cons Kept (SlewAt n (q.shi +ℤ slew_growth g)) [] slew (All-nil Kept))) in
    here ∙ over_on (all_sink_tests m n net q sinks) (sink_tests m n net q sinks) below

live_keeps : (d : Parts) (n own : ℕ) (net : Net) (q r : Quad) → IsSoundNet d own net → IsWithin q r → IsLive q → IsAcceptedQuad d.miller net r
    → None ≡ first_over (TimeAt n q.tlo ∷ TimeAt n q.thi ∷ SlewAt n q.shi ∷ all_sink_tests d.miller n net q (length net.sinks))
live_keeps d n own net q r s w live a =
    let o = ordered_from_live q live in
    let sinks = all_sink_tests d.miller n net q (length net.sinks) in
    let natural : (sink : ℕ) → pos 0 ≤ℤ greatest_wire d.miller net sink = λ sink. wire_delay_natural d own net (map (λ k. d.miller.high) net.couplings) sink s in
    let tlo = time_keeps n q.tlo (record { least = omega (arith, ints, w.tlo, a.tlo.least); most = omega (arith, ints, o.times, w.thi, a.thi.most) }) in
    let thi = time_keeps n q.thi (record { least = omega (arith, ints, o.times, w.tlo, a.tlo.least); most = omega (arith, ints, w.thi, a.thi.most) }) in
    let shi = slew_keeps n q.shi (omega (arith, ints, w.shi, a.shi)) in
    let all = sinks_keep d.miller n net q (length net.sinks)
    (λ sink p. record { least = omega (arith, ints, o.times, w.tlo, a.tlo.least, natural sink); most = omega (arith, ints, w.thi, a.pin_times sink p) })
    (λ sink p. omega (arith, ints, w.shi, a.pin_slews sink p)) in
    none_over (TimeAt n q.tlo ∷ TimeAt n q.thi ∷ SlewAt n q.shi ∷ sinks)
    (All-cons Kept (TimeAt n q.tlo) (TimeAt n q.thi ∷ SlewAt n q.shi ∷ sinks) tlo
    (All-cons Kept (TimeAt n q.thi) (SlewAt n q.shi ∷ sinks) thi
    (All-cons Kept (SlewAt n q.shi) sinks shi (all_passed sinks all))))

-- what a window keeps that lies within one of which the limits are known where it is live
quad_kept : (d : Parts) (n own : ℕ) (net : Net) (q r : Quad) → IsSoundNet d own net → IsWithin q r → (IsLive r → IsAcceptedQuad d.miller net r) → None ≡ first_over (quad_tests d.miller n net q)
quad_kept d n own net q r s w accepted =
    let ts = TimeAt n q.tlo ∷ TimeAt n q.thi ∷ SlewAt n q.shi ∷ all_sink_tests d.miller n net q (length net.sinks) in
    let P : Bool → Type 0 = λ b. None ≡ first_over (cond b ts []) in
    elim (cases_Bool (is_live q)) [
      | inl live ↦ subst P (sym live) (live_keeps d n own net q r s w live (accepted (live_mono q r w live)))
      | inr dead ↦ subst P (sym dead) refl
    ]

join_right : (p q : Quad) → IsWithin q (join_of p q)
join_right p q = record { tlo = omega (arith, ints, clamps); thi = omega (arith, ints, clamps); slo = omega (arith, ints, clamps); shi = omega (arith, ints, clamps) }

pub join_in_range : (p : Pair) → IsPairInRange p → IsInRange (join_of p.rise p.fall)
join_in_range p h =
    let a = h.rise in
    let b = h.fall in
    record {
      tlo = record { low = omega (arith, ints, clamps, a.tlo.low, b.tlo.low); high = omega (arith, ints, clamps, a.tlo.high, b.tlo.high) };
      thi = record { low = omega (arith, ints, clamps, a.thi.low, b.thi.low); high = omega (arith, ints, clamps, a.thi.high, b.thi.high) };
      slo = record { low = omega (arith, ints, clamps, a.slo.low, b.slo.low); high = omega (arith, ints, clamps, a.slo.high, b.slo.high) };
      shi = record { low = omega (arith, ints, clamps, a.shi.low, b.shi.low); high = omega (arith, ints, clamps, a.shi.high, b.shi.high) };
    }

-- where the least window that both of a net lie within keeps the limits, both do
pair_kept : (d : Parts) (n own : ℕ) (net : Net) (o : Option Net) (p : Pair) → o ≡ Some net → IsSoundNet d own net
    → (IsLive (join_of p.rise p.fall) → IsAcceptedQuad d.miller net (join_of p.rise p.fall)) → None ≡ first_over (pair_tests d.miller n o p)
pair_kept d n own net o p there s h =
    let both = join_of p.rise p.fall in
    pair_tested d.miller n net o p (Ok tt) there (quad_kept d n own net p.rise both s (join_left p.rise p.fall) h) (quad_kept d n own net p.fall both s (join_right p.rise p.fall) h)

pub pair_keeps : (d : Parts) (n own : ℕ) (net : Net) (o : Option Net) (p : Pair) → o ≡ Some net → IsSoundNet d own net
    → None ≡ first_over (quad_tests d.miller n net (join_of p.rise p.fall)) → None ≡ first_over (pair_tests d.miller n o p)
pair_keeps d n own net o p there s h =
    let both = join_of p.rise p.fall in
    pair_kept d n own net o p there s (λ live. accepted_quad d.miller n net both live (all_passed (quad_tests d.miller n net both) h))

-- where a window keeps the limits behind a wire delay that none of a net's is greater than, it keeps them behind these
behind_accepted : (m : MillerNumbers) (n : ℕ) (net : Net) (q : Quad) (wire : ℤ) → AreWiresToSinksAtMost m net (length net.sinks) wire → None ≡ first_over (driver_tests n q ++ wire_tests n q wire)
    → IsAcceptedQuad m net q
behind_accepted m n net q wire greatest h =
    let k1 : AllPass keeps (TimeAt n q.tlo ∷ TimeAt n q.thi ∷ SlewAt n q.shi ∷ TimeAt n (q.thi +ℤ wire) ∷ SlewAt n (q.shi +ℤ slew_growth wire) ∷ []) = all_passed (driver_tests n q ++ wire_tests n q wire) h in
    let k2 = All-tail Kept (TimeAt n q.tlo) (TimeAt n q.thi ∷ SlewAt n q.shi ∷ TimeAt n (q.thi +ℤ wire) ∷ SlewAt n (q.shi +ℤ slew_growth wire) ∷ []) k1 in
    let k3 = All-tail Kept (TimeAt n q.thi) (SlewAt n q.shi ∷ TimeAt n (q.thi +ℤ wire) ∷ SlewAt n (q.shi +ℤ slew_growth wire) ∷ []) k2 in
    let k4 = All-tail Kept (SlewAt n q.shi) (TimeAt n (q.thi +ℤ wire) ∷ SlewAt n (q.shi +ℤ slew_growth wire) ∷ []) k3 in
    let k5 = All-tail Kept (TimeAt n (q.thi +ℤ wire)) (SlewAt n (q.shi +ℤ slew_growth wire) ∷ []) k4 in
    let arrival = time_kept n (q.thi +ℤ wire) (All-head Kept (TimeAt n (q.thi +ℤ wire)) (SlewAt n (q.shi +ℤ slew_growth wire) ∷ []) k4) in
    let slew = slew_kept n (q.shi +ℤ slew_growth wire) (All-head Kept (SlewAt n (q.shi +ℤ slew_growth wire)) [] k5) in
    record {
      tlo = time_kept n q.tlo (All-head Kept (TimeAt n q.tlo) (TimeAt n q.thi ∷ SlewAt n q.shi ∷ TimeAt n (q.thi +ℤ wire) ∷ SlewAt n (q.shi +ℤ slew_growth wire) ∷ []) k1);
      thi = time_kept n q.thi (All-head Kept (TimeAt n q.thi) (SlewAt n q.shi ∷ TimeAt n (q.thi +ℤ wire) ∷ SlewAt n (q.shi +ℤ slew_growth wire) ∷ []) k2);
      shi = slew_kept n q.shi (All-head Kept (SlewAt n q.shi) (TimeAt n (q.thi +ℤ wire) ∷ SlewAt n (q.shi +ℤ slew_growth wire) ∷ []) k3);
      pin_times = λ sink p. let g = greatest.each sink p in omega (arith, ints, g, arrival.most);
      pin_slews = λ sink p. let g = slew_growth_mono (greatest_wire m net sink) wire (greatest.each sink p) in omega (arith, ints, g, slew);
    }

-- where that window keeps the limits behind the greatest wire delay of the design, both do
pub pair_keeps_behind : (d : Parts) (n : ℕ) (p : Pair) (wire : ℤ) → IsSound d → n < length d.nets → AreWiresAtMost d wire
    → None ≡ first_over (driver_tests n (join_of p.rise p.fall) ++ wire_tests n (join_of p.rise p.fall) wire) → None ≡ first_over (pair_tests d.miller n (slice_get d.nets n) p)
pair_keeps_behind d n p wire s inside greatest h = elim (slice_get_cases d.nets n).1 [
  | inl e ↦
      let net = e.0 in
      let sound = found (IsSoundNet d n) (slice_get d.nets n) net e.2 (s.nets n) in
      let wires = found (λ x. AreWiresToSinksAtMost d.miller x (length x.sinks) wire) (slice_get d.nets n) net e.2 (greatest.each n (omega arith) inside) in
      pair_kept d n n net (slice_get d.nets n) p e.2 sound (λ live. behind_accepted d.miller n net (join_of p.rise p.fall) wire wires h)
  | inr e ↦ let P : Option Net → Type 0 = λ o. None ≡ first_over (pair_tests d.miller n o p) in subst P (sym e.1) refl
]
