-- The design after an edit is sound: what stays as it was, and what is left in its range.
use Rattle.std.proofs.Common.{◌≡◌, ℕ, suc, ◌+◌, ◌<◌, ◌≤◌, ◌==◌, Bool, true, false, refl, sym, ap, subst, ◌∙◌, List, [], ◌∷◌, length, map, ℤ, ◌≤ℤ◌, arith}
use Rattle.std.specs.Prelude.{if◌then◌else◌, Option, Some, None, IfSome}
use Rattle.std.specs.List.{All, slice_get, slice_index, sum_by}
use Rattle.std.specs.Option.{IsSomeAnd, option_map, unwrap_or}
use Rattle.std.proofs.lemmas.Int.{ints}
use Rattle.std.proofs.lemmas.List.{length-map}
use Rattle.std.proofs.lemmas.List.Elements.{All-nil, All-cons, All-head, All-tail, All-weaker}
use Rattle.std.proofs.lemmas.List.Sums.{sum_by-cons}
use Rattle.std.proofs.lemmas.Nat.{mul-le}
use Rattle.std.proofs.lemmas.Option.{IfSome_then}
use Rattle.xt_model.specs.declared.net.Coupling.{Coupling}
use Rattle.xt_model.specs.declared.net.SinkPin.{SinkPin}
use Rattle.xt_model.specs.declared.net.TimingArc.{TimingArc}
use Rattle.xt_model.specs.declared.net.Net.{Net}
use Rattle.xt_model.specs.declared.check.CheckPoint.{CheckPoint}
use Rattle.xt_model.specs.declared.check.CheckPoint.TheVariants.{Flop, Port}
use Rattle.xt_model.specs.Levels.{AreLevels, level_from}
use Rattle.xt_model.specs.Limits.{most_cap}
use Rattle.xt_model.specs.Parts.{Parts}
use Rattle.xt_model.specs.Sound.{IsSound, IsSoundNet, IsSoundCoupling, IsSoundSink, IsSoundArc, IsSoundCheck, HasSink, HasOwnNames, IsWithinLimits, coupling_sum, coefficients_of, couplings_at, reads_by, reads_of}
use Rattle.xt_meaning.proofs.Growth.{IsNatural}
use Rattle.eco_warm.specs.declared.edit.Move.{Move}
use Rattle.eco_warm.specs.declared.edit.Move.TheVariants.{Whole, ToGround, FromGround}
use Rattle.eco_warm.specs.Edits.{cap_left, coupling_before, couplings_left, coef_before, coefs_left, sink_left, net_left}
use Rattle.eco_warm.specs.Possible.{HasProducts, IsPossible, load_after}
use Rattle.eco_warm.proofs.Portions.{IsNaturalMove, cap_natural}
use Rattle.eco_warm.proofs.Nets.{IsRelated, AreRelated}
use Rattle.eco_warm.proofs.Ordered.{with_nets}

-- ---- what an edit keeps of a net
pub record IsAlike (y x : Net) : Type 0 where
  pub name : y.name ≡ x.name
  pub arcs : y.arcs ≡ x.arcs
  pub sinks : length y.sinks ≡ length x.sinks
  pub couplings : length y.couplings ≤ length x.couplings

pub alike_refl : (n : Net) → IsAlike n n
alike_refl n = record { name = refl; arcs = refl; sinks = refl; couplings = omega arith }

fewer_step : (t : Bool) (m : Move) (k : Coupling) (ks' : List Coupling) (n : ℕ) → length ks' ≤ n
    → length (if t then coupling_before m k ks' else k ∷ ks') ≤ suc n
fewer_step false m k ks' n h = omega (arith, h)
fewer_step true Whole k ks' n h = omega (arith, h)
fewer_step true (ToGround by) k ks' n h = omega (arith, h)
fewer_step true (FromGround by) k ks' n h = omega (arith, h)

pub fewer_couplings : (m : Move) (other : ℕ) (ks : List Coupling) → length (couplings_left m other ks) ≤ length ks
fewer_couplings m other [] = omega arith
fewer_couplings m other (k ∷ ks) = fewer_step (k.to.0 == other) m k (couplings_left m other ks) (length ks) (fewer_couplings m other ks)

pub alike_left : (m : Move) (other : ℕ) (n : Net) → IsAlike (net_left m other n) n
alike_left m other n = record {
  name = refl;
  arcs = refl;
  sinks = length-map n.sinks (sink_left m other n.couplings);
  couplings = fewer_couplings m other n.couplings;
}

-- ---- the net itself
-- a coupling as it has to be, but for its greatest capacitance
record IsCoupling (d : Parts) (own : ℕ) (k : Coupling) : Type 0 where
  there : k.to.0 < length d.nets
  other : k.to.0 ≡ own → ⊥
  cap : IsNatural k.cap

couplings_step : (d : Parts) (own : ℕ) (t : Bool) (m : Move) (k : Coupling) (ks' : List Coupling) → IsNaturalMove m → IsCoupling d own k → All (IsCoupling d own) ks'
    → All (IsCoupling d own) (if t then coupling_before m k ks' else k ∷ ks')
couplings_step d own false m k ks' n h a = All-cons (IsCoupling d own) k ks' h a
couplings_step d own true Whole k ks' n h a = a
couplings_step d own true (ToGround by) k ks' n h a =
    All-cons (IsCoupling d own) (record k { cap = cap_left (ToGround by) k.cap }) ks' (record { there = h.there; other = h.other; cap = cap_natural (ToGround by) k.cap n h.cap }) a
couplings_step d own true (FromGround by) k ks' n h a =
    All-cons (IsCoupling d own) (record k { cap = cap_left (FromGround by) k.cap }) ks' (record { there = h.there; other = h.other; cap = cap_natural (FromGround by) k.cap n h.cap }) a

couplings_hold : (d : Parts) (own : ℕ) (m : Move) (other : ℕ) (ks : List Coupling) → IsNaturalMove m → All (IsCoupling d own) ks
    → All (IsCoupling d own) (couplings_left m other ks)
couplings_hold d own m other [] n a = All-nil (IsCoupling d own)
couplings_hold d own m other (k ∷ ks) n a =
    couplings_step d own (k.to.0 == other) m k (couplings_left m other ks) n (All-head (IsCoupling d own) k ks a) (couplings_hold d own m other ks n (All-tail (IsCoupling d own) k ks a))

sum_natural : (d : Parts) (own : ℕ) (ks : List Coupling) → All (IsCoupling d own) ks → IsNatural (coupling_sum ks)
sum_natural d own [] a = omega (arith, ints)
sum_natural d own (k ∷ ks) a =
    let h = All-head (IsCoupling d own) k ks a in
    let g = sum_natural d own ks (All-tail (IsCoupling d own) k ks a) in
    omega (arith, ints, h.cap, g)

-- none has more than all have together
couplings_sound : (d : Parts) (own : ℕ) (ks : List Coupling) → All (IsCoupling d own) ks → coupling_sum ks ≤ℤ most_cap → All (IsSoundCoupling d own) ks
couplings_sound d own [] a most = All-nil (IsSoundCoupling d own)
couplings_sound d own (k ∷ ks) a most =
    let h = All-head (IsCoupling d own) k ks a in
    let t = All-tail (IsCoupling d own) k ks a in
    let g = sum_natural d own ks t in
    All-cons (IsSoundCoupling d own) k ks
    (record { there = h.there; other = h.other; cap = record { least = h.cap; most = omega (arith, ints, most, g) } })
    (couplings_sound d own ks t (omega (arith, ints, most, h.cap)))

counts_step : (t : Bool) (m : Move) (k : Coupling) (ks' : List Coupling) (c : ℤ) (cs' : List ℤ) → length cs' ≡ length ks'
    → length (if t then coef_before m k.cap c cs' else c ∷ cs') ≡ length (if t then coupling_before m k ks' else k ∷ ks')
counts_step false m k ks' c cs' h = ap suc h
counts_step true Whole k ks' c cs' h = h
counts_step true (ToGround by) k ks' c cs' h = ap suc h
counts_step true (FromGround by) k ks' c cs' h = ap suc h

pub counts_left : (m : Move) (other : ℕ) (ks : List Coupling) (cs : List ℤ) → length cs ≡ length ks
    → length (coefs_left m other ks cs) ≡ length (couplings_left m other ks)
counts_left m other [] cs h = refl
counts_left m other (k ∷ ks) [] h = absurd (omega (arith, h))
counts_left m other (k ∷ ks) (c ∷ cs) h =
    counts_step (k.to.0 == other) m k (couplings_left m other ks) c (coefs_left m other ks cs) (counts_left m other ks cs (omega (arith, h)))

sinks_sound : (m : Move) (other : ℕ) (ks : List Coupling) (ss : List SinkPin) → All (IsSoundSink (length ks)) ss → All HasProducts (map (sink_left m other ks) ss)
    → All (IsSoundSink (length (couplings_left m other ks))) (map (sink_left m other ks) ss)
sinks_sound m other ks [] a b = All-nil (IsSoundSink (length (couplings_left m other ks)))
sinks_sound m other ks (s ∷ ss) a b =
    let h = All-head (IsSoundSink (length ks)) s ss a in
    let g = All-head HasProducts (sink_left m other ks s) (map (sink_left m other ks) ss) b in
    All-cons (IsSoundSink (length (couplings_left m other ks))) (sink_left m other ks s) (map (sink_left m other ks) ss)
    (record { name = h.name; base = g.base; count = counts_left m other ks s.coefs h.count; coefs = g.coefs })
    (sinks_sound m other ks ss (All-tail (IsSoundSink (length ks)) s ss a) (All-tail HasProducts (sink_left m other ks s) (map (sink_left m other ks) ss) b))

-- in the design before, the net after the edit is sound
pub net_sound : (d : Parts) (own : ℕ) (m : Move) (other : ℕ) (n : Net) → IsSoundNet d own n → IsNaturalMove m → IsPossible m other n → load_after m other n ≤ℤ most_cap
    → IsSoundNet d own (net_left m other n)
net_sound d own m other n s a p most =
    let before : All (IsCoupling d own) n.couplings =
    All-weaker (IsSoundCoupling d own) (IsCoupling d own) (λ k h. record { there = h.there; other = h.other; cap = h.cap.least }) n.couplings s.couplings in
    let left = couplings_hold d own m other n.couplings a before in
    let sum = sum_natural d own (couplings_left m other n.couplings) left in
    record {
      name = s.name;
      load = record { least = p.load; most = omega (arith, ints, most, sum) };
      rise = s.rise;
      fall = s.fall;
      derived = s.derived;
      couplings = couplings_sound d own (couplings_left m other n.couplings) left (omega (arith, ints, most, sum, p.load));
      sinks = sinks_sound m other n.couplings n.sinks s.sinks p.sinks;
      arcs = s.arcs;
      few_sinks = let e = length-map n.sinks (sink_left m other n.couplings) in omega (arith, e, s.few_sinks);
      most_load = most;
    }

-- ---- in the design after
module _ (d : Parts) (ys : List Net) (alike : AreRelated IsAlike ys d.nets) (count : length ys ≡ length d.nets) where
  sink_kept : (o p : Option Net) (sink : ℕ) → IsRelated IsAlike o p → IsSomeAnd p (λ n. sink < length n.sinks) → IsSomeAnd o (λ n. sink < length n.sinks)
  sink_kept None None sink h k = k
  sink_kept None (Some x) sink h k = absurd h
  sink_kept (Some y) None sink h k = absurd h
  sink_kept (Some y) (Some x) sink h k = omega (arith, h.sinks, k)

  has_sink : (net sink : ℕ) → HasSink d net sink → HasSink (with_nets d ys) net sink
  has_sink net sink h = sink_kept (slice_get ys net) (slice_get d.nets net) sink (alike.each net) h

  pub net_kept : (own : ℕ) (n : Net) → IsSoundNet d own n → IsSoundNet (with_nets d ys) own n
  net_kept own n s = record {
    name = s.name;
    load = s.load;
    rise = s.rise;
    fall = s.fall;
    derived = s.derived;
    couplings = All-weaker (IsSoundCoupling d own) (IsSoundCoupling (with_nets d ys) own)
        (λ k h. record { there = omega (arith, count, h.there); other = h.other; cap = h.cap }) n.couplings s.couplings;
    sinks = s.sinks;
    arcs = All-weaker (IsSoundArc d) (IsSoundArc (with_nets d ys)) (λ a h. record { sink = has_sink a.from.0 a.sink h.sink; delay = h.delay; slew = h.slew }) n.arcs s.arcs;
    few_sinks = s.few_sinks;
    most_load = s.most_load;
  }

  check_kept : (c : CheckPoint) → IsSoundCheck d c → IsSoundCheck (with_nets d ys) c
  check_kept (Flop name hold datum datum_sink clock clock_sink rise fall) h =
      (h.0, has_sink datum.0 datum_sink h.1, has_sink clock.0 clock_sink h.2, h.3, h.4)
  check_kept (Port name hold net sink rise fall) h = (h.0, has_sink net.0 sink h.1, h.2, h.3)

  name_at : (o p : Option Net) (y : Net) → IsRelated IsAlike o p → o ≡ Some y → (x : Net) × (p ≡ Some x) × (y.name ≡ x.name)
  name_at None p y h e = absurd cc
  name_at (Some z) None y h e = absurd h
  name_at (Some z) (Some x) y h e = (x, refl, let k : z ≡ y = cc in let P : Net → Type 0 = λ n. n.name ≡ x.name in subst P k h.name)

  names_kept : HasOwnNames d.nets → HasOwnNames ys
  names_kept h = record {
    differ = λ i j n m less at_i at_j same.
        let x = name_at (slice_get ys i) (slice_get d.nets i) n (alike.each i) at_i in
        let y = name_at (slice_get ys j) (slice_get d.nets j) m (alike.each j) at_j in
        h.differ i j x.0 y.0 less x.1 y.1 (sym x.2 ∙ (same ∙ y.2));
  }

  couplings_kept : (net : ℕ) → couplings_at (with_nets d ys) net ≤ couplings_at d net
  couplings_kept net = at (slice_get ys net) (slice_get d.nets net) (alike.each net)
    where
      at : (o p : Option Net) → IsRelated IsAlike o p → unwrap_or (option_map (λ n. length n.couplings) o) 0 ≤ unwrap_or (option_map (λ n. length n.couplings) p) 0
      at None None h = omega arith
      at None (Some x) h = absurd h
      at (Some y) None h = absurd h
      at (Some y) (Some x) h = h.couplings

-- sums over the nets of two lists, net by net
pub sum_no_more : (f g : Net → ℕ) → ((y x : Net) → IsAlike y x → f y ≤ g x) → (ys xs : List Net) → AreRelated IsAlike ys xs → sum_by f ys ≤ sum_by g xs
sum_no_more f g h [] [] a = omega arith
sum_no_more f g h [] (x ∷ xs) a = absurd (a.each 0)
sum_no_more f g h (y ∷ ys) [] a = absurd (a.each 0)
sum_no_more f g h (y ∷ ys) (x ∷ xs) a =
    let e = sum_by-cons f y ys in
    let k = sum_by-cons g x xs in
    let b = h y x (a.each 0) in
    let r = sum_no_more f g h ys xs (record { each = λ i. a.each (suc i) }) in
    omega (arith, e, k, b, r)

arcs_no_more : (f g : TimingArc → ℕ) → ((a : TimingArc) → f a ≤ g a) → (arcs : List TimingArc) → sum_by f arcs ≤ sum_by g arcs
arcs_no_more f g h [] = omega arith
arcs_no_more f g h (a ∷ arcs) =
    let e = sum_by-cons f a arcs in
    let k = sum_by-cons g a arcs in
    omega (arith, e, k, h a, arcs_no_more f g h arcs)

module _ (d : Parts) (ys : List Net) (alike : AreRelated IsAlike ys d.nets) (count : length ys ≡ length d.nets) where
  reads_at : (own less : ℕ) (arcs : List TimingArc) → less ≤ own → reads_by (with_nets d ys) less arcs ≤ reads_by d own arcs
  reads_at own less [] h = omega arith
  reads_at own less (a ∷ more) h =
      let r = arcs_no_more (λ b. 1 + couplings_at (with_nets d ys) b.from.0) (λ b. 1 + couplings_at d b.from.0)
      (λ b. let c = couplings_kept d ys alike count b.from.0 in omega (arith, c)) (a ∷ more) in
      omega (arith, r, h)

  reads_kept : (y x : Net) → IsAlike y x → reads_of (with_nets d ys) y ≤ reads_of d x
  reads_kept y x h =
      let P : List TimingArc → Type 0 = λ arcs. reads_of (with_nets d ys) y ≤ reads_by d (length x.couplings) arcs in
      subst P h.arcs (reads_at (length x.couplings) (length y.couplings) y.arcs h.couplings)

  limits_kept : IsWithinLimits d → IsWithinLimits (with_nets d ys)
  limits_kept w = record {
    nets = omega (arith, count, w.nets);
    tables = w.tables;
    checks = w.checks;
    couplings = let r = sum_no_more (λ n. length n.couplings) (λ n. length n.couplings) (λ y x h. h.couplings) ys d.nets alike in omega (arith, r, w.couplings);
    coefficients =
        let r = sum_no_more coefficients_of coefficients_of
        (λ y x h. let s : length y.sinks ≤ length x.sinks = omega (arith, h.sinks) in mul-le (length y.sinks) (length y.couplings) (length x.sinks) (length x.couplings) s h.couplings) ys d.nets alike in
        omega (arith, r, w.coefficients);
    arcs =
        let r = sum_no_more (λ n. length n.arcs) (λ n. length n.arcs) (λ y x h. let e = ap length h.arcs in omega (arith, e)) ys d.nets alike in
        omega (arith, r, w.arcs);
    reads = let r = sum_no_more (reads_of (with_nets d ys)) (reads_of d) reads_kept ys d.nets alike in omega (arith, r, w.reads);
  }

  -- where the nets are sound in the design before, the whole design after is sound
  pub design_sound : IsSound d → ((i : ℕ) → IfSome (slice_get ys i) (IsSoundNet d i)) → IsSound (with_nets d ys)
  design_sound s nets = record {
    tables = s.tables;
    nets = λ i. IfSome_then (slice_get ys i) (nets i) (λ n h. net_kept d ys alike count i n h);
    names = names_kept d ys alike count s.names;
    checks = All-weaker (IsSoundCheck d) (IsSoundCheck (with_nets d ys)) (λ c h. check_kept d ys alike count _ h) d.checks s.checks;
    limits = limits_kept s.limits;
    period = record { range = s.period.range; there = s.period.there };
    miller = s.miller;
  }

-- ---- levels
pub levels_kept : (ys xs : List Net) (levels : List ℕ) → AreRelated IsAlike ys xs → length ys ≡ length xs → AreLevels xs levels → AreLevels ys levels
levels_kept ys xs levels alike count h = record {
  count = h.count ∙ sym count;
  each = λ i n at. level_at (slice_get ys i) (slice_get xs i) i n (alike.each i) at (h.each i);
}
  where
    level_at : (o p : Option Net) (i : ℕ) (y : Net) → IsRelated IsAlike o p → o ≡ Some y
        → ((x : Net) → p ≡ Some x → slice_index levels i ≡ level_from levels x.arcs) → slice_index levels i ≡ level_from levels y.arcs
    level_at None p i y r e k = absurd cc
    level_at (Some z) None i y r e k = absurd r
    level_at (Some z) (Some x) i y r e k =
        let is : z ≡ y = cc in
        let P : Net → Type 0 = λ n. n.arcs ≡ x.arcs in
        k x refl ∙ ap (level_from levels) (sym (subst P is r.arcs))
