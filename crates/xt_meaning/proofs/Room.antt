-- Windows within an envelope that keeps the limits keep them too, so that no sum leaves its type.
use Rattle.std.proofs.Common.{◌≡◌, ℕ, zero, suc, ◌<◌, inl, inr, Bool, true, false, sym, subst, List, [], ◌∷◌, ◌++◌, length, ℤ, pos, negsuc, neg_ℤ, ◌+ℤ◌, ◌*ℤ◌, ◌≤ℤ◌, arith}
use Rattle.std.specs.Prelude.{IsTrue, int_le, if◌then◌else◌, Option, Some, None, IfSome}
use Rattle.std.specs.Int.{int_div_euclid}
use Rattle.std.specs.List.{All, AllPass, slice_get, fold}
use Rattle.std.proofs.lemmas.Int.{ints, clamps}
use Rattle.std.proofs.lemmas.Bool.{cases_lt}
use Rattle.std.proofs.lemmas.List.Elements.{All-nil, All-cons, All-head, All-tail, All-weaker}
use Rattle.xt_model.specs.declared.edge.Edge.{Edge}
use Rattle.xt_model.specs.declared.edge.Edge.TheVariants.{Rise, Fall}
use Rattle.xt_model.specs.declared.quad.Quad.{Quad}
use Rattle.xt_model.specs.declared.quad.Pair.{Pair}
use Rattle.xt_model.specs.declared.table.Table.{Table}
use Rattle.xt_model.specs.declared.net.SinkPin.{SinkPin}
use Rattle.xt_model.specs.declared.net.TimingArc.{TimingArc}
use Rattle.xt_model.specs.declared.net.Net.{Net}
use Rattle.xt_model.specs.Quads.{bottom, is_live, IsLive, join_of, quad_at}
use Rattle.xt_model.specs.Limits.{most_time, most_slew}
use Rattle.xt_model.specs.Miller.{MillerNumbers}
use Rattle.xt_model.specs.Parts.{Parts}
use Rattle.xt_model.specs.Sound.{IsSound, IsSoundNet, IsSoundSink, IsGiven, IsTime, IsProduct}
use Rattle.xt_model.specs.Assign.{Assignment, assigned}
use Rattle.xt_meaning.specs.Lookup.{Box}
use Rattle.xt_meaning.specs.Wires.{product_sum, delay_to, wire_delay, slew_growth}
use Rattle.xt_meaning.specs.Overlap.{Answers, all_overlap}
use Rattle.xt_meaning.specs.Operator.{slew_range, contribution, contributes, with_arc, arcs_quad, net_quad, operator_by}
use Rattle.xt_meaning.specs.Envelope.{IsWidest, IsAccepted, Test, TimeAt, SlewAt, keeps, greatest_wire, sink_tests, all_sink_tests, quad_tests, tests_of, net_tests}
use Rattle.xt_meaning.proofs.Ranges.{least_over-slew_value}
use Rattle.xt_meaning.proofs.Order.{both_true, le_from_test}
use Rattle.xt_meaning.proofs.Growth.{IsNatural, IfSome_from_All}

-- ---- no slew is below 0
given_slew : (q : Quad) → IsGiven q → IsNatural q.slo
given_slew q (inl e) = let P : Quad → Type 0 = λ r. IsNatural r.slo in subst P (sym e) (omega (arith, ints))
given_slew q (inr c) = c.slo.least

given_slew_at : (d : Parts) (own : ℕ) (net : Net) (e : Edge) → IsSoundNet d own net → IsNatural (quad_at net.given e).slo
given_slew_at d own net Rise s = given_slew net.given.rise s.rise
given_slew_at d own net Fall s = given_slew net.given.fall s.fall

pub slew_range_natural : (o : Option Table) (b : Box) → IsNatural (slew_range o b).least
slew_range_natural None b = omega (arith, ints)
slew_range_natural (Some t) b =
    let e = least_over-slew_value t b in
    let P : ℤ → Type 0 = IsNatural in
    subst P (sym e) (omega (arith, ints, clamps))

chosen_slew : (b : Bool) (q r : Quad) → IsNatural q.slo → IsNatural r.slo → IsNatural (if b then join_of q r else q).slo
chosen_slew true q r h k = omega (arith, ints, clamps)
chosen_slew false q r h k = h

fold_slew : (d : Parts) (b : Answers) (W : Assignment) (n : ℕ) (net : Net) (e : Edge) (q : Quad) (arcs : List TimingArc) → IsNatural q.slo → IsNatural (fold (with_arc d b W n net e) q arcs).slo
fold_slew d b W n net e q [] h = h
fold_slew d b W n net e q (a ∷ more) h =
    fold_slew d b W n net e (with_arc d b W n net e q a) more
    (chosen_slew (contributes W e a) q (contribution d b W n net e a) h (slew_range_natural (slice_get d.tables a.slew) _))

arcs_slew : (d : Parts) (b : Answers) (W : Assignment) (n : ℕ) (net : Net) (e : Edge) (arcs : List TimingArc) → IsSoundNet d n net → IsNatural (arcs_quad d b W n net e arcs).slo
arcs_slew d b W n net e [] s = given_slew_at d n net e s
arcs_slew d b W n net e (a ∷ more) s = fold_slew d b W n net e bottom (a ∷ more) (omega (arith, ints))

net_slew : (d : Parts) (b : Answers) (W : Assignment) (n : ℕ) (e : Edge) (o : Option Net) → IfSome o (IsSoundNet d n) → IsNatural (net_quad d b W n e o).slo
net_slew d b W n e None s = omega (arith, ints)
net_slew d b W n e (Some net) s = arcs_slew d b W n net e net.arcs s

-- the operator makes no slew below 0
pub operator_slew : (d : Parts) (b : Answers) (W : Assignment) (n : ℕ) (e : Edge) → IsSound d → IsNatural (operator_by d b W n e).slo
unfolding operator_by
operator_slew d b W n e s = net_slew d b W n e (slice_get d.nets n) (s.nets n)

pub widest_slew : (d : Parts) (w : List Pair) (n : ℕ) (e : Edge) → IsSound d → IsWidest d w → IsNatural (assigned w n e).slo
widest_slew d w n e s h = let P : Quad → Type 0 = λ q. IsNatural q.slo in subst P (h.fixed n e) (operator_slew d all_overlap (assigned w) n e s)

-- ---- no wire has a delay below 0
scaled_natural : (a : ℕ) (c : ℤ) → IsNatural c → IsNatural (pos a *ℤ c)
scaled_natural a (pos n) h = omega (arith, ints)
scaled_natural a (negsuc n) h = absurd (omega (arith, ints))

pub product_sum_natural : (ms : List ℕ) (cs : List ℤ) → All IsNatural cs → IsNatural (product_sum ms cs)
product_sum_natural [] cs h = omega (arith, ints)
product_sum_natural (m ∷ ms) [] h = omega (arith, ints)
product_sum_natural (m ∷ ms) (c ∷ cs) h =
    let x = scaled_natural m c (All-head IsNatural c cs h) in
    let y = product_sum_natural ms cs (All-tail IsNatural c cs h) in
    omega (arith, ints)

pub floor_natural : (x : ℤ) (d : ℕ) → IsNatural x → IsNatural (int_div_euclid x (pos d))
floor_natural (pos n) d h = omega (arith, ints)
floor_natural (negsuc n) d h = absurd (omega (arith, ints))

delay_to_natural : (c : ℕ) (ms : List ℕ) (o : Option SinkPin) → IfSome o (IsSoundSink c) → IsNatural (delay_to ms o)
delay_to_natural c ms None s = omega (arith, ints)
delay_to_natural c ms (Some p) s =
    let x = product_sum_natural ms p.coefs (All-weaker IsProduct IsNatural (λ z g. g.least) p.coefs s.coefs) in
    floor_natural ((pos 4 *ℤ p.base) +ℤ product_sum ms p.coefs) 4000000 (omega (arith, ints, s.base.least))

pub wire_delay_natural : (d : Parts) (own : ℕ) (net : Net) (ms : List ℕ) (sink : ℕ) → IsSoundNet d own net → IsNatural (wire_delay ms net sink)
wire_delay_natural d own net ms sink s =
    delay_to_natural (length net.couplings) ms (slice_get net.sinks sink) (IfSome_from_All (IsSoundSink (length net.couplings)) net.sinks s.sinks sink)

pub slew_growth_natural : (w : ℤ) → IsNatural w → IsNatural (slew_growth w)
slew_growth_natural w h = floor_natural (pos 11 *ℤ w) 5 (omega (arith, ints))

-- ---- what the tests of an accepted envelope say
All-left : {X : Type 0} (P : X → Type 0) (xs ys : List X) → All P (xs ++ ys) → All P xs
All-left P [] ys h = All-nil P
All-left P (x ∷ xs) ys h = All-cons P x xs (All-head P x (xs ++ ys) h) (All-left P xs ys (All-tail P x (xs ++ ys) h))

All-right : {X : Type 0} (P : X → Type 0) (xs ys : List X) → All P (xs ++ ys) → All P ys
All-right P [] ys h = h
All-right P (x ∷ xs) ys h = All-right P xs ys (All-tail P x (xs ++ ys) h)

abbrev Kept : Test → Type 0
Kept t = keeps t ≡ true

time_passed : (n : ℕ) (t : ℤ) → Kept (TimeAt n t) → IsTime t
time_passed n t h =
    let p = both_true (int_le (neg_ℤ most_time) t) (int_le t most_time) h in
    record { least = le_from_test (neg_ℤ most_time) t p.0; most = le_from_test t most_time p.1 }

slew_passed : (n : ℕ) (s : ℤ) → Kept (SlewAt n s) → s ≤ℤ most_slew
slew_passed n s h = le_from_test s most_slew h

chosen_passed : (b : Bool) (ts : List Test) → IsTrue b → AllPass keeps (if b then ts else []) → AllPass keeps ts
chosen_passed true ts h k = k
chosen_passed false ts h k = absurd (cc)

-- where the tests of a net pass, those of each of its windows do
pub net_passed : (d : Parts) (w : List Pair) (n : ℕ) (net : Net) (e : Edge) → AllPass keeps (net_tests d w n) → slice_get d.nets n ≡ Some net → AllPass keeps (quad_tests d.miller n net (assigned w n e))
net_passed d w n net e h there = side e where
  both : AllPass keeps (tests_of d.miller w n (Some net))
  both = let P : Option Net → Type 0 = λ o. AllPass keeps (tests_of d.miller w n o) in subst P there h

  side : (f : Edge) → AllPass keeps (quad_tests d.miller n net (assigned w n f))
  side Rise = All-left Kept (quad_tests d.miller n net (assigned w n Rise)) (quad_tests d.miller n net (assigned w n Fall)) both
  side Fall = All-right Kept (quad_tests d.miller n net (assigned w n Rise)) (quad_tests d.miller n net (assigned w n Fall)) both

pub quad_passed : (d : Parts) (w : List Pair) (n : ℕ) (net : Net) (e : Edge) → IsAccepted d w → slice_get d.nets n ≡ Some net → AllPass keeps (quad_tests d.miller n net (assigned w n e))
quad_passed d w n net e acc there = net_passed d w n net e (acc.each n) there

-- a live window of an accepted envelope
pub record IsAcceptedQuad (m : MillerNumbers) (net : Net) (q : Quad) : Type 0 where
  pub tlo : IsTime q.tlo
  pub thi : IsTime q.thi
  pub shi : q.shi ≤ℤ most_slew
  pub pin_times : (sink : ℕ) → sink < length net.sinks → (q.thi +ℤ greatest_wire m net sink) ≤ℤ most_time
  pub pin_slews : (sink : ℕ) → sink < length net.sinks → (q.shi +ℤ slew_growth (greatest_wire m net sink)) ≤ℤ most_slew

one_sink : (m : MillerNumbers) (n : ℕ) (net : Net) (q : Quad) (sinks sink : ℕ) → sink < sinks → AllPass keeps (all_sink_tests m n net q sinks) → AllPass keeps (sink_tests m n net q sink)
one_sink m n net q zero sink h k = absurd (omega arith)
one_sink m n net q (suc sinks) sink h k = elim (cases_lt sink sinks) [
  | inl p ↦ one_sink m n net q sinks sink p (All-left Kept (all_sink_tests m n net q sinks) (sink_tests m n net q sinks) k)
  | inr p ↦
      let e : sinks ≡ sink = omega arith in
      let P : ℕ → Type 0 = λ i. AllPass keeps (sink_tests m n net q i) in
      subst P e (All-right Kept (all_sink_tests m n net q sinks) (sink_tests m n net q sinks) k)
]

pub accepted_quad : (m : MillerNumbers) (n : ℕ) (net : Net) (q : Quad) → IsLive q → AllPass keeps (quad_tests m n net q) → IsAcceptedQuad m net q
accepted_quad m n net q live h =
    let sinks = all_sink_tests m n net q (length net.sinks) in
    let k1 = chosen_passed (is_live q) (TimeAt n q.tlo ∷ TimeAt n q.thi ∷ SlewAt n q.shi ∷ sinks) live h in
    let k2 = All-tail Kept (TimeAt n q.tlo) (TimeAt n q.thi ∷ SlewAt n q.shi ∷ sinks) k1 in
    let k3 = All-tail Kept (TimeAt n q.thi) (SlewAt n q.shi ∷ sinks) k2 in
    let k4 = All-tail Kept (SlewAt n q.shi) sinks k3 in
    record {
      tlo = time_passed n q.tlo (All-head Kept (TimeAt n q.tlo) (TimeAt n q.thi ∷ SlewAt n q.shi ∷ sinks) k1);
      thi = time_passed n q.thi (All-head Kept (TimeAt n q.thi) (SlewAt n q.shi ∷ sinks) k2);
      shi = slew_passed n q.shi (All-head Kept (SlewAt n q.shi) sinks k3);
      pin_times = λ sink p.
          let g = greatest_wire m net sink in
          let t = one_sink m n net q (length net.sinks) sink p k4 in
          (time_passed n (q.thi +ℤ g) (All-head Kept (TimeAt n (q.thi +ℤ g)) (SlewAt n (q.shi +ℤ slew_growth g) ∷ []) t)).most;
      pin_slews = λ sink p.
          let g = greatest_wire m net sink in
          let t = one_sink m n net q (length net.sinks) sink p k4 in
          slew_passed n (q.shi +ℤ slew_growth g) (All-head Kept (SlewAt n (q.shi +ℤ slew_growth g)) []
          (All-tail Kept (TimeAt n (q.thi +ℤ g)) (SlewAt n (q.shi +ℤ slew_growth g) ∷ []) t));
    }
