-- Factors, loads, wire delays and boxes grow with the overlap answers.
use Rattle.std.proofs.Common.{ℕ, zero, suc, ◌*◌, ◌≤◌, Bool, true, false, refl, List, [], ◌∷◌, length, map, ℤ, pos, negsuc, ◌+ℤ◌, ◌*ℤ◌, ◌≤ℤ◌, arith, mul-le-mul_right}
use Rattle.std.specs.Prelude.{IsTrue, if◌then◌else◌, Option, Some, None, IfSome}
use Rattle.std.specs.List.{All, slice_get}
use Rattle.std.proofs.lemmas.Int.{ints}
use Rattle.std.proofs.lemmas.List.Elements.{All-nil, All-cons, All-head, All-tail, All-weaker}
use Rattle.std.proofs.lemmas.Option.{IfSome_then}
use Rattle.xt_model.specs.declared.edge.Edge.{Edge}
use Rattle.xt_model.specs.declared.net.Coupling.{Coupling}
use Rattle.xt_model.specs.declared.net.SinkPin.{SinkPin}
use Rattle.xt_model.specs.declared.net.Net.{Net}
use Rattle.xt_model.specs.Quads.{other_edge}
use Rattle.xt_model.specs.Miller.{MillerNumbers, IsMiller}
use Rattle.xt_model.specs.Parts.{Parts}
use Rattle.xt_model.specs.Sound.{IsSound, IsSoundNet, IsSoundCoupling, IsSoundSink, IsProduct}
use Rattle.xt_meaning.specs.Wires.{product_sum, cap_sum, load_of, delay_to, wire_delay, slew_growth}
use Rattle.xt_meaning.specs.Overlap.{Answers, IsRealPeriod, least_factor, greatest_factor, least_factors, greatest_factors}
use Rattle.xt_meaning.specs.Operator.{Range, wire_range, load_range}
use Rattle.xt_meaning.specs.Laws.{IsRangeWithin}
use Rattle.xt_meaning.proofs.Order.{div_euclid_mono}

-- what holds of each element holds of the one that a look-up finds
pub IfSome_from_All : {X : Type 0} (P : X → Type 0) (xs : List X) → All P xs → (i : ℕ) → IfSome (slice_get xs i) P
IfSome_from_All P [] h i = tt
IfSome_from_All P (x ∷ xs) h zero = All-head P x xs h
IfSome_from_All P (x ∷ xs) h (suc i) = IfSome_from_All P xs (All-tail P x xs h) i

-- ---- sums
abbrev pub IsNatural : ℤ → Type 0
IsNatural x = pos 0 ≤ℤ x

-- as many factors, each at most the other
abbrev pub AreNoGreater : List ℕ → List ℕ → Type 0
AreNoGreater [] [] = Unit {0}
AreNoGreater [] (p ∷ ps) = ⊥
AreNoGreater (m ∷ ms) [] = ⊥
AreNoGreater (m ∷ ms) (p ∷ ps) = (m ≤ p) × AreNoGreater ms ps

scaled_mono : (a b : ℕ) (c : ℤ) → a ≤ b → pos 0 ≤ℤ c → (pos a *ℤ c) ≤ℤ (pos b *ℤ c)
scaled_mono a b (pos n) h k = let e : a * n ≤ b * n = mul-le-mul_right n h in omega (arith, ints)
scaled_mono a b (negsuc n) h k = absurd (omega (arith, ints))

pub product_sum_mono : (ms ps : List ℕ) (cs : List ℤ) → AreNoGreater ms ps → All IsNatural cs → product_sum ms cs ≤ℤ product_sum ps cs
product_sum_mono [] [] cs h n = omega (arith, ints)
product_sum_mono [] (p ∷ ps) cs h n = absurd h
product_sum_mono (m ∷ ms) [] cs h n = absurd h
product_sum_mono (m ∷ ms) (p ∷ ps) [] h n = omega (arith, ints)
product_sum_mono (m ∷ ms) (p ∷ ps) (c ∷ cs) h n =
    let x = scaled_mono m p c h.0 (All-head IsNatural c cs n) in
    let y = product_sum_mono ms ps cs h.1 (All-tail IsNatural c cs n) in
    omega (arith, ints)

-- a factor for each coupling, by a rule that gives no greater one than another rule
factors_no_greater : (f g : Coupling → ℕ) (ks : List Coupling) → All (λ k. f k ≤ g k) ks → AreNoGreater (map f ks) (map g ks)
factors_no_greater f g [] h = tt
factors_no_greater f g (k ∷ ks) h = (All-head (λ k. f k ≤ g k) k ks h, factors_no_greater f g ks (All-tail (λ k. f k ≤ g k) k ks h))

abbrev pub HasNaturalCap : Coupling → Type 0
HasNaturalCap k = IsNatural k.cap

pub natural_caps : (ks : List Coupling) → All HasNaturalCap ks → All IsNatural (map (λ k. k.cap) ks)
natural_caps [] h = All-nil IsNatural
natural_caps (k ∷ ks) h = All-cons IsNatural k.cap (map (λ k. k.cap) ks) (All-head HasNaturalCap k ks h) (natural_caps ks (All-tail HasNaturalCap k ks h))

-- ---- what the sums need of a sound design
abbrev pub HasNaturalCoefs : SinkPin → Type 0
HasNaturalCoefs s = All IsNatural s.coefs

-- no capacitance of a coupling and no coefficient of a sink is below 0
pub record IsWired (n : Net) : Type 0 where
  pub caps : All HasNaturalCap n.couplings
  pub coefs : All HasNaturalCoefs n.sinks

-- nor does a factor fall below a lesser one, or a period below 1
pub record AreWired (d : Parts) : Type 0 where
  pub each : (i : ℕ) → IfSome (slice_get d.nets i) IsWired
  pub miller : IsMiller d.miller
  pub period : IsRealPeriod d.period

wired_net : (d : Parts) (own : ℕ) (n : Net) → IsSoundNet d own n → IsWired n
wired_net d own n s = record {
  caps = All-weaker (IsSoundCoupling d own) HasNaturalCap (λ k h. h.cap.least) n.couplings s.couplings;
  coefs = All-weaker (IsSoundSink (length n.couplings)) HasNaturalCoefs (λ p h. All-weaker IsProduct IsNatural (λ c g. g.least) p.coefs h.coefs) n.sinks s.sinks;
}

pub wired : (d : Parts) → IsSound d → AreWired d
wired d s = record {
  each = λ i. IfSome_then (slice_get d.nets i) (s.nets i) (λ n h. wired_net d i n h);
  miller = s.miller;
  period = IfSome_then d.period s.period.range (λ t h. h.least);
}

-- ---- loads and delays
pub load_mono : (ms ps : List ℕ) (n : Net) → AreNoGreater ms ps → IsWired n → load_of ms n ≤ℤ load_of ps n
load_mono ms ps n h w =
    let x = product_sum_mono ms ps (map (λ k. k.cap) n.couplings) h (natural_caps n.couplings w.caps) in
    let y = div_euclid_mono (cap_sum ms n.couplings) (cap_sum ps n.couplings) 4 (omega arith) x in
    omega (arith, ints)

delay_to_mono : (ms ps : List ℕ) (o : Option SinkPin) → AreNoGreater ms ps → IfSome o HasNaturalCoefs → delay_to ms o ≤ℤ delay_to ps o
delay_to_mono ms ps None h c = omega (arith, ints)
delay_to_mono ms ps (Some s) h c =
    let x = product_sum_mono ms ps s.coefs h c in
    div_euclid_mono ((pos 4 *ℤ s.base) +ℤ product_sum ms s.coefs) ((pos 4 *ℤ s.base) +ℤ product_sum ps s.coefs) 4000000 (omega arith) (omega (arith, ints))

pub wire_delay_mono : (ms ps : List ℕ) (n : Net) (sink : ℕ) → AreNoGreater ms ps → IsWired n → wire_delay ms n sink ≤ℤ wire_delay ps n sink
wire_delay_mono ms ps n sink h w = delay_to_mono ms ps (slice_get n.sinks sink) h (IfSome_from_All HasNaturalCoefs n.sinks w.coefs sink)

pub slew_growth_mono : (x y : ℤ) → x ≤ℤ y → slew_growth x ≤ℤ slew_growth y
slew_growth_mono x y h = div_euclid_mono (pos 11 *ℤ x) (pos 11 *ℤ y) 5 (omega arith) (omega (arith, ints))

-- ---- factors
lower_if : (m : MillerNumbers) → IsMiller m → (x y : Bool) → (IsTrue x → IsTrue y) → (if y then m.low else m.mid) ≤ (if x then m.low else m.mid)
lower_if m g true true h = omega arith
lower_if m g true false h = absurd (let e = h refl in cc)
lower_if m g false true h = g.low
lower_if m g false false h = omega arith

higher_if : (m : MillerNumbers) → IsMiller m → (x y : Bool) → (IsTrue x → IsTrue y) → (if x then m.high else m.mid) ≤ (if y then m.high else m.mid)
higher_if m g true true h = omega arith
higher_if m g true false h = absurd (let e = h refl in cc)
higher_if m g false true h = g.mid
higher_if m g false false h = omega arith

least_to_greatest : (m : MillerNumbers) → IsMiller m → (x y : Bool) → (if x then m.low else m.mid) ≤ (if y then m.high else m.mid)
least_to_greatest m g true true = omega (arith, g.low, g.mid)
least_to_greatest m g true false = g.low
least_to_greatest m g false true = g.mid
least_to_greatest m g false false = omega arith

-- at each edge of net n, what the answers b say of its couplings the answers c say too
pub record IsImpliedAt (b c : Answers) (n : ℕ) (ks : List Coupling) : Type 0 where
  pub each : (e f : Edge) → All (λ k. IsTrue (b n e k.to.0 f) → IsTrue (c n e k.to.0 f)) ks

pub least_factors_fall : (m : MillerNumbers) (b c : Answers) (n : ℕ) (e : Edge) (ks : List Coupling) → IsMiller m → IsImpliedAt b c n ks
    → AreNoGreater (least_factors m c n e ks) (least_factors m b n e ks)
least_factors_fall m b c n e ks g h =
    factors_no_greater (least_factor m c n e) (least_factor m b n e) ks
    (All-weaker (λ k. IsTrue (b n e k.to.0 e) → IsTrue (c n e k.to.0 e)) (λ k. least_factor m c n e k ≤ least_factor m b n e k)
    (λ k i. lower_if m g (b n e k.to.0 e) (c n e k.to.0 e) i) ks (h.each e e))

pub greatest_factors_rise : (m : MillerNumbers) (b c : Answers) (n : ℕ) (e : Edge) (ks : List Coupling) → IsMiller m → IsImpliedAt b c n ks
    → AreNoGreater (greatest_factors m b n e ks) (greatest_factors m c n e ks)
greatest_factors_rise m b c n e ks g h =
    factors_no_greater (greatest_factor m b n e) (greatest_factor m c n e) ks
    (All-weaker (λ k. IsTrue (b n e k.to.0 (other_edge e)) → IsTrue (c n e k.to.0 (other_edge e))) (λ k. greatest_factor m b n e k ≤ greatest_factor m c n e k)
    (λ k i. higher_if m g (b n e k.to.0 (other_edge e)) (c n e k.to.0 (other_edge e)) i) ks (h.each e (other_edge e)))

pub factors_ordered : (m : MillerNumbers) (b : Answers) (n : ℕ) (e : Edge) (ks : List Coupling) → IsMiller m
    → AreNoGreater (least_factors m b n e ks) (greatest_factors m b n e ks)
factors_ordered m b n e ks g =
    factors_no_greater (least_factor m b n e) (greatest_factor m b n e) ks (λ k x h. least_to_greatest m g (b n e _ e) (b n e _ (other_edge e)))

-- ---- ranges
pub record IsRange (r : Range) : Type 0 where
  pub ordered : r.least ≤ℤ r.most

pub load_range_ordered : (m : MillerNumbers) (b : Answers) (n : ℕ) (e : Edge) (net : Net) → IsMiller m → IsWired net → IsRange (load_range m b n e net)
load_range_ordered m b n e net g w = record {
  ordered = load_mono (least_factors m b n e net.couplings) (greatest_factors m b n e net.couplings) net (factors_ordered m b n e net.couplings g) w;
}

pub load_range_mono : (m : MillerNumbers) (b c : Answers) (n : ℕ) (e : Edge) (net : Net) → IsMiller m → IsImpliedAt b c n net.couplings → IsWired net
    → IsRangeWithin (load_range m b n e net) (load_range m c n e net)
load_range_mono m b c n e net g h w =
    let ks = net.couplings in
    record {
      least = load_mono (least_factors m c n e ks) (least_factors m b n e ks) net (least_factors_fall m b c n e ks g h) w;
      most = load_mono (greatest_factors m b n e ks) (greatest_factors m c n e ks) net (greatest_factors_rise m b c n e ks g h) w;
    }

pub wire_range_ordered : (m : MillerNumbers) (b : Answers) (n : ℕ) (e : Edge) (sink : ℕ) (o : Option Net) → IsMiller m → IfSome o IsWired → IsRange (wire_range m b n e sink o)
wire_range_ordered m b n e sink None g w = record { ordered = omega (arith, ints) }
wire_range_ordered m b n e sink (Some net) g w = record {
  ordered = wire_delay_mono (least_factors m b n e net.couplings) (greatest_factors m b n e net.couplings) net sink (factors_ordered m b n e net.couplings g) w;
}

pub wire_range_mono : (m : MillerNumbers) (b c : Answers) (n : ℕ) (e : Edge) (sink : ℕ) (o : Option Net) → IsMiller m → IfSome o (λ net. IsImpliedAt b c n net.couplings) → IfSome o IsWired
    → IsRangeWithin (wire_range m b n e sink o) (wire_range m c n e sink o)
wire_range_mono m b c n e sink None g h w = record { least = omega (arith, ints); most = omega (arith, ints) }
wire_range_mono m b c n e sink (Some net) g h w =
    let ks = net.couplings in
    record {
      least = wire_delay_mono (least_factors m c n e ks) (least_factors m b n e ks) net sink (least_factors_fall m b c n e ks g h) w;
      most = wire_delay_mono (greatest_factors m b n e ks) (greatest_factors m c n e ks) net sink (greatest_factors_rise m b c n e ks g h) w;
    }
