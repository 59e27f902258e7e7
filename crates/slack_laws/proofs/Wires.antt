-- A wire delay that is admitted for a transition lies in the range that windows give which hold the list.
use Rattle.std.proofs.Common.{ℕ, ◌≤◌, ◌⊎◌, inl, inr, sym, subst, Bool, true, false, List, [], ◌∷◌, ℤ, ◌*ℤ◌, ◌≤ℤ◌, arith}
use Rattle.std.specs.Prelude.{IsTrue, if◌then◌else◌, Option, Some, None, IfSome}
use Rattle.std.specs.List.{Contains}
use Rattle.std.specs.Option.{IsSomeAnd}
use Rattle.std.proofs.lemmas.Int.{ints}
use Rattle.std.proofs.lemmas.List.Elements.{All-contains}
use Rattle.xt_model.specs.declared.edge.Edge.{Edge}
use Rattle.xt_model.specs.declared.net.Coupling.{Coupling}
use Rattle.xt_model.specs.declared.net.Net.{Net}
use Rattle.xt_model.specs.Quads.{other_edge}
use Rattle.xt_model.specs.Parts.{Parts}
use Rattle.xt_model.specs.Assign.{Assignment}
use Rattle.xt_meaning.specs.Overlap.{Meet, MeetMoved, overlap_answers, least_factor, greatest_factor, least_factors, greatest_factors}
use Rattle.xt_meaning.specs.Operator.{wire_range}
use Rattle.xt_meaning.proofs.Order.{half_up_mono}
use Rattle.xt_meaning.proofs.Meeting.{overlaps_decides}
use Rattle.xt_meaning.proofs.Growth.{IsWired, AreWired, AreNoGreater, wire_delay_mono}
use Rattle.run_laws.specs.Transitions.{Transition, starts, ends, MeetsOneAt, IsAdmitted, AreAdmitted, IsWireDelay}
use Rattle.run_laws.specs.Laws.{LiesInLive, LieWithin}

-- ---- overlaps
-- ranges that reach at least as far as two that meet
pub meet_around : (period : Option ℤ) (a0 a1 b0 b1 c0 c1 f0 f1 : ℤ) → c0 ≤ℤ a0 → a1 ≤ℤ c1 → f0 ≤ℤ b0 → b1 ≤ℤ f1 → Meet period a0 a1 b0 b1 → Meet period c0 c1 f0 f1
meet_around None a0 a1 b0 b1 c0 c1 f0 f1 c a f b m = record { starts = omega (arith, ints, c, b, m.starts); ends = omega (arith, ints, a, f, m.ends) }
meet_around (Some t) a0 a1 b0 b1 c0 c1 f0 f1 c a f b m = (m.0, moved a0 a1 b0 b1 c0 c1 f0 f1 (m.0 *ℤ t) c a f b m.1) where
  moved : (a0 a1 b0 b1 c0 c1 f0 f1 move : ℤ) → c0 ≤ℤ a0 → a1 ≤ℤ c1 → f0 ≤ℤ b0 → b1 ≤ℤ f1 → MeetMoved a0 a1 b0 b1 move → MeetMoved c0 c1 f0 f1 move
  moved a0 a1 b0 b1 c0 c1 f0 f1 move c a f b m = record { starts = omega (arith, ints, c, b, m.starts); ends = omega (arith, ints, a, f, m.ends) }

-- in windows that hold the list, what x meets overlaps it
pub meets_overlap : (d : Parts) (W : Assignment) (xs : List Transition) (x : Transition) (n : ℕ) (e : Edge) → AreWired d → LieWithin W xs → Contains xs x → MeetsOneAt d xs x n e
    → IsTrue (overlap_answers d.period W x.net x.edge n e)
meets_overlap d W xs x n e ws lie h m =
    let y = m.other in
    let P : ℕ → Type 0 = λ i. IsTrue (overlap_answers d.period W x.net x.edge i y.edge) in
    let Q : Edge → Type 0 = λ f. IsTrue (overlap_answers d.period W x.net x.edge n f) in
    let of_x : LiesInLive (W x.net x.edge) x = All-contains (λ z. LiesInLive (W z.net z.edge) z) xs x lie h in
    let of_y : LiesInLive (W y.net y.edge) y = All-contains (λ z. LiesInLive (W z.net z.edge) z) xs y lie m.listed in
    let wide_x = half_up_mono x.slew (W x.net x.edge).shi of_x.bounds.shi in
    let wide_y = half_up_mono y.slew (W y.net y.edge).shi of_y.bounds.shi in
    subst Q m.at_edge (subst P m.at_net ((overlaps_decides d.period (W x.net x.edge) (W y.net y.edge) ws.period).1 (record {
      first = of_x.live;
      second = of_y.live;
      meet = meet_around d.period (starts x) (ends x) (starts y) (ends y) _ _ _ _ (omega (arith, ints, wide_x, of_x.bounds.tlo)) (omega (arith, ints, wide_x, of_x.bounds.thi))
          (omega (arith, ints, wide_y, of_y.bounds.tlo)) (omega (arith, ints, wide_y, of_y.bounds.thi)) m.together;
    })))

-- ---- factors
at_least : (t : Bool) (low mid f : ℕ) → low ≤ mid → (mid ≤ f) ⊎ ((low ≤ f) × IsTrue t) → (if t then low else mid) ≤ f
at_least true low mid f h (inl a) = omega (arith, h, a)
at_least true low mid f h (inr a) = a.0
at_least false low mid f h (inl a) = a
at_least false low mid f h (inr a) = absurd (let e = a.1 in cc)

at_most : (t : Bool) (mid high f : ℕ) → mid ≤ high → (f ≤ mid) ⊎ ((f ≤ high) × IsTrue t) → f ≤ (if t then high else mid)
at_most true mid high f h (inl a) = omega (arith, h, a)
at_most true mid high f h (inr a) = a.0
at_most false mid high f h (inl a) = a
at_most false mid high f h (inr a) = absurd (let e = a.1 in cc)

module _ (d : Parts) (W : Assignment) (xs : List Transition) (x : Transition) (ws : AreWired d) (lie : LieWithin W xs) (h : Contains xs x) where
  factor_within : (k : Coupling) (m : ℕ) → IsAdmitted d xs x k m
      → (least_factor d.miller (overlap_answers d.period W) x.net x.edge k ≤ m) × (m ≤ greatest_factor d.miller (overlap_answers d.period W) x.net x.edge k)
  factor_within k m (inl e) = (
    at_least _ d.miller.low d.miller.mid m ws.miller.low (inl (omega (arith, e))),
    at_most _ d.miller.mid d.miller.high m ws.miller.mid (inl (omega (arith, e))),
  )
  factor_within k m (inr (inl a)) = (
    at_least _ d.miller.low d.miller.mid m ws.miller.low (inr (omega (arith, a.0), meets_overlap d W xs x k.to.0 x.edge ws lie h a.1)),
    at_most _ d.miller.mid d.miller.high m ws.miller.mid (inl (omega (arith, a.0, ws.miller.low))),
  )
  factor_within k m (inr (inr a)) = (
    at_least _ d.miller.low d.miller.mid m ws.miller.low (inl (omega (arith, a.0, ws.miller.mid))),
    at_most _ d.miller.mid d.miller.high m ws.miller.mid (inr (omega (arith, a.0), meets_overlap d W xs x k.to.0 (other_edge x.edge) ws lie h a.1)),
  )

  factors_within : (ks : List Coupling) (ms : List ℕ) → AreAdmitted d xs x ks ms
      → AreNoGreater (least_factors d.miller (overlap_answers d.period W) x.net x.edge ks) ms
      × AreNoGreater ms (greatest_factors d.miller (overlap_answers d.period W) x.net x.edge ks)
  factors_within [] [] a = (tt, tt)
  factors_within [] (m ∷ ms) a = absurd a
  factors_within (k ∷ ks) [] a = absurd a
  factors_within (k ∷ ks) (m ∷ ms) a =
      let one = factor_within k m a.0 in
      let more = factors_within ks ms a.1 in
      ((one.0, more.0), (one.1, more.1))

  -- ---- wires
  pub wire_within : (sink : ℕ) (w : ℤ) (o : Option Net) → IfSome o IsWired → IsSomeAnd o (IsWireDelay d xs x sink w)
      → ((wire_range d.miller (overlap_answers d.period W) x.net x.edge sink o).least ≤ℤ w) × (w ≤ℤ (wire_range d.miller (overlap_answers d.period W) x.net x.edge sink o).most)
  wire_within sink w None own l = absurd l
  wire_within sink w (Some net) own l =
      let r = wire_range d.miller (overlap_answers d.period W) x.net x.edge sink (Some net) in
      let P : ℤ → Type 0 = λ v. (r.least ≤ℤ v) × (v ≤ℤ r.most) in
      let f = factors_within net.couplings l.factors l.admitted in
      subst P (sym l.delay) (wire_delay_mono _ l.factors net sink f.0 own, wire_delay_mono l.factors _ net sink f.1 own)
