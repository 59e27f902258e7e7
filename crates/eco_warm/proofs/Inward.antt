-- Loads and wire delays of a net, before and after some of its couplings are moved.
use Rattle.std.proofs.Common.{◌≡◌, ℕ, zero, suc, ◌≤◌, Bool, true, false, refl, List, [], ◌∷◌, length, map, ℤ, pos, ◌+ℤ◌, ◌-ℤ◌, ◌*ℤ◌, ◌≤ℤ◌, arith}
use Rattle.std.specs.Prelude.{if◌then◌else◌, Some}
use Rattle.std.specs.Int.{int_div_euclid}
use Rattle.std.specs.List.{All, slice_get}
use Rattle.std.proofs.lemmas.Int.{ints}
use Rattle.std.proofs.lemmas.List.Elements.{All-head, All-tail, All-weaker}
use Rattle.xt_model.specs.declared.edge.Edge.{Edge}
use Rattle.xt_model.specs.declared.net.Coupling.{Coupling}
use Rattle.xt_model.specs.declared.net.SinkPin.{SinkPin}
use Rattle.xt_model.specs.declared.net.Net.{Net}
use Rattle.xt_model.specs.Quads.{other_edge}
use Rattle.xt_model.specs.Miller.{MillerNumbers, IsMiller}
use Rattle.xt_model.specs.Parts.{Parts}
use Rattle.xt_model.specs.Sound.{IsSoundNet, IsSoundCoupling, IsSoundSink, IsProduct}
use Rattle.xt_meaning.specs.Wires.{product_sum, cap_sum, load_of, delay_to}
use Rattle.xt_meaning.specs.Overlap.{Answers}
use Rattle.xt_meaning.specs.Operator.{Range, wire_range, load_range}
use Rattle.xt_meaning.specs.Laws.{IsRangeWithin}
use Rattle.xt_meaning.proofs.Growth.{IsNatural, HasNaturalCap}
use Rattle.xt_meaning.proofs.Meeting.{floor_from, floor_to}
use Rattle.xt_meaning.proofs.Order.{div_euclid_mono}
use Rattle.eco_warm.specs.declared.edit.Move.{Move}
use Rattle.eco_warm.specs.Edits.{cap_left, coef_left, couplings_left, cap_moved, coef_moved, coefs_left, sink_left, net_left}
use Rattle.eco_warm.proofs.Portions.{CountsNoLess, CountsNoMore, IsToGround, IsFromGround, IsNaturalMove, cap_out_least, cap_out_most, cap_in_least, cap_in_most, coef_out_least, coef_out_most, coef_in_least, coef_in_most}
use Rattle.eco_warm.proofs.Moved.{factors, caps_up, caps_down, coefs_up, coefs_down}

-- ---- what the sums need of a net
pub record IsWiredSink (ks : List Coupling) (s : SinkPin) : Type 0 where
  pub count : length s.coefs ≡ length ks
  pub coefs : All IsNatural s.coefs

pub record HasSums (n : Net) : Type 0 where
  pub caps : All HasNaturalCap n.couplings
  pub sinks : All (IsWiredSink n.couplings) n.sinks

pub sums_of : (d : Parts) (own : ℕ) (n : Net) → IsSoundNet d own n → HasSums n
sums_of d own n s = record {
  caps = All-weaker (IsSoundCoupling d own) HasNaturalCap (λ k h. h.cap.least) n.couplings s.couplings;
  sinks = All-weaker (IsSoundSink (length n.couplings)) (IsWiredSink n.couplings)
      (λ p h. record { count = h.count; coefs = All-weaker IsProduct IsNatural (λ c g. g.least) p.coefs h.coefs }) n.sinks s.sinks;
}

-- what a factor counts of capacitances and of coefficients
pub record CountNoLess (m : Move) (f : ℕ → ℕ) : Type 0 where
  pub caps : (k : Coupling) → HasNaturalCap k → CountsNoLess (f k.to.0) k.cap (cap_left m k.cap)
  pub coefs : (k : Coupling) (c : ℤ) → HasNaturalCap k → IsNatural c → CountsNoLess (f k.to.0) c (coef_left m k.cap c)

pub record CountNoMore (m : Move) (f : ℕ → ℕ) : Type 0 where
  pub caps : (k : Coupling) → HasNaturalCap k → CountsNoMore (f k.to.0) k.cap (cap_left m k.cap)
  pub coefs : (k : Coupling) (c : ℤ) → HasNaturalCap k → IsNatural c → CountsNoMore (f k.to.0) c (coef_left m k.cap c)

-- ---- loads
floor_up : (s t m : ℤ) → s ≤ℤ ((pos 4 *ℤ m) +ℤ t) → int_div_euclid s (pos 4) ≤ℤ (m +ℤ int_div_euclid t (pos 4))
floor_up s t m h =
    let q = int_div_euclid s (pos 4) in
    let low : (q *ℤ pos 4) ≤ℤ s = floor_to q s 4 (omega arith) (omega (arith, ints)) in
    let r : (q -ℤ m) ≤ℤ int_div_euclid t (pos 4) = floor_from (q -ℤ m) t 4 (omega arith) (omega (arith, ints, low, h)) in
    omega (arith, ints, r)

floor_down : (s t m : ℤ) → ((pos 4 *ℤ m) +ℤ t) ≤ℤ s → (m +ℤ int_div_euclid t (pos 4)) ≤ℤ int_div_euclid s (pos 4)
floor_down s t m h =
    let q = int_div_euclid t (pos 4) in
    let low : (q *ℤ pos 4) ≤ℤ t = floor_to q t 4 (omega arith) (omega (arith, ints)) in
    floor_from (m +ℤ q) s 4 (omega arith) (omega (arith, ints, low, h))

load_up : (m : Move) (other : ℕ) (f : ℕ → ℕ) (n : Net) → CountNoLess m f → HasSums n
    → load_of (factors f n.couplings) n ≤ℤ load_of (factors f (couplings_left m other n.couplings)) (net_left m other n)
load_up m other f n h w =
    let ks = n.couplings in
    let r = floor_up (cap_sum (factors f ks) ks) (cap_sum (factors f (couplings_left m other ks)) (couplings_left m other ks)) (cap_moved m other ks) (caps_up m other f h.caps ks w.caps) in
    omega (arith, ints, r)

load_down : (m : Move) (other : ℕ) (f : ℕ → ℕ) (n : Net) → CountNoMore m f → HasSums n
    → load_of (factors f (couplings_left m other n.couplings)) (net_left m other n) ≤ℤ load_of (factors f n.couplings) n
load_down m other f n h w =
    let ks = n.couplings in
    let r = floor_down (cap_sum (factors f ks) ks) (cap_sum (factors f (couplings_left m other ks)) (couplings_left m other ks)) (cap_moved m other ks) (caps_down m other f h.caps ks w.caps) in
    omega (arith, ints, r)

-- ---- wires
sink_up : (m : Move) (other : ℕ) (f : ℕ → ℕ) (ks : List Coupling) (s : SinkPin) → CountNoLess m f → All HasNaturalCap ks → IsWiredSink ks s
    → delay_to (factors f ks) (Some s) ≤ℤ delay_to (factors f (couplings_left m other ks)) (Some (sink_left m other ks s))
sink_up m other f ks s h a w =
    let r = coefs_up m other f h.coefs ks s.coefs w.count a w.coefs in
    div_euclid_mono ((pos 4 *ℤ s.base) +ℤ product_sum (factors f ks) s.coefs)
    ((pos 4 *ℤ (s.base +ℤ coef_moved m other ks s.coefs)) +ℤ product_sum (factors f (couplings_left m other ks)) (coefs_left m other ks s.coefs)) 4000000 (omega arith)
    (omega (arith, ints, r))

sink_down : (m : Move) (other : ℕ) (f : ℕ → ℕ) (ks : List Coupling) (s : SinkPin) → CountNoMore m f → All HasNaturalCap ks → IsWiredSink ks s
    → delay_to (factors f (couplings_left m other ks)) (Some (sink_left m other ks s)) ≤ℤ delay_to (factors f ks) (Some s)
sink_down m other f ks s h a w =
    let r = coefs_down m other f h.coefs ks s.coefs w.count a w.coefs in
    div_euclid_mono ((pos 4 *ℤ (s.base +ℤ coef_moved m other ks s.coefs)) +ℤ product_sum (factors f (couplings_left m other ks)) (coefs_left m other ks s.coefs))
    ((pos 4 *ℤ s.base) +ℤ product_sum (factors f ks) s.coefs) 4000000 (omega arith)
    (omega (arith, ints, r))

sinks_up : (m : Move) (other : ℕ) (f : ℕ → ℕ) (ks : List Coupling) (ss : List SinkPin) (i : ℕ) → CountNoLess m f → All HasNaturalCap ks → All (IsWiredSink ks) ss
    → delay_to (factors f ks) (slice_get ss i) ≤ℤ delay_to (factors f (couplings_left m other ks)) (slice_get (map (sink_left m other ks) ss) i)
sinks_up m other f ks [] i h a w = omega (arith, ints)
sinks_up m other f ks (s ∷ ss) zero h a w = sink_up m other f ks s h a (All-head (IsWiredSink ks) s ss w)
sinks_up m other f ks (s ∷ ss) (suc i) h a w = sinks_up m other f ks ss i h a (All-tail (IsWiredSink ks) s ss w)

sinks_down : (m : Move) (other : ℕ) (f : ℕ → ℕ) (ks : List Coupling) (ss : List SinkPin) (i : ℕ) → CountNoMore m f → All HasNaturalCap ks → All (IsWiredSink ks) ss
    → delay_to (factors f (couplings_left m other ks)) (slice_get (map (sink_left m other ks) ss) i) ≤ℤ delay_to (factors f ks) (slice_get ss i)
sinks_down m other f ks [] i h a w = omega (arith, ints)
sinks_down m other f ks (s ∷ ss) zero h a w = sink_down m other f ks s h a (All-head (IsWiredSink ks) s ss w)
sinks_down m other f ks (s ∷ ss) (suc i) h a w = sinks_down m other f ks ss i h a (All-tail (IsWiredSink ks) s ss w)

-- ---- the ranges of a net
-- whatever the overlaps, the loads and the wire delays of net y lie within those of net x, and all else is the same
pub record IsInward (mi : MillerNumbers) (y x : Net) : Type 0 where
  pub arcs : y.arcs ≡ x.arcs
  pub given : y.given ≡ x.given
  pub loads : (b : Answers) (n : ℕ) (e : Edge) → IsRangeWithin (load_range mi b n e y) (load_range mi b n e x)
  pub wires : (b : Answers) (n : ℕ) (e : Edge) (sink : ℕ) → IsRangeWithin (wire_range mi b n e sink (Some y)) (wire_range mi b n e sink (Some x))

abbrev least_at : MillerNumbers → Answers → ℕ → Edge → ℕ → ℕ
least_at mi b n e t = if b n e t e then mi.low else mi.mid

abbrev greatest_at : MillerNumbers → Answers → ℕ → Edge → ℕ → ℕ
greatest_at mi b n e t = if b n e t (other_edge e) then mi.high else mi.mid

least_few : (mi : MillerNumbers) → IsMiller mi → mi.mid ≡ 4 → (x : Bool) → (if x then mi.low else mi.mid) ≤ 4
least_few mi g h true = omega (arith, g.low, h)
least_few mi g h false = omega (arith, h)

greatest_many : (mi : MillerNumbers) → IsMiller mi → mi.mid ≡ 4 → (x : Bool) → 4 ≤ (if x then mi.high else mi.mid)
greatest_many mi g h true = omega (arith, g.mid, h)
greatest_many mi g h false = omega (arith, h)

range_refl : (r : Range) → IsRangeWithin r r
range_refl r = record { least = omega (arith, ints); most = omega (arith, ints) }

pub inward_refl : (mi : MillerNumbers) (n : Net) → IsInward mi n n
inward_refl mi n = record {
  arcs = refl;
  given = refl;
  loads = λ b i e. range_refl (load_range mi b i e n);
  wires = λ b i e sink. range_refl (wire_range mi b i e sink (Some n));
}

-- what goes to ground makes the ranges no wider
pub to_ground : (mi : MillerNumbers) (m : Move) (other : ℕ) (n : Net) → IsMiller mi → mi.mid ≡ 4 → IsToGround m → IsNaturalMove m → HasSums n → IsInward mi (net_left m other n) n
to_ground mi m other n g h t a w =
    let low : (b : Answers) (i : ℕ) (e : Edge) → CountNoLess m (least_at mi b i e) = λ b i e. record {
      caps = λ k c. cap_out_least m (least_at mi b i e k.to.0) k.cap t a (least_few mi g h (b i e k.to.0 e)) c;
      coefs = λ k x c n. coef_out_least m (least_at mi b i e k.to.0) k.cap x t a (least_few mi g h (b i e k.to.0 e)) c n;
    } in
    let high : (b : Answers) (i : ℕ) (e : Edge) → CountNoMore m (greatest_at mi b i e) = λ b i e. record {
      caps = λ k c. cap_out_most m (greatest_at mi b i e k.to.0) k.cap t a (greatest_many mi g h (b i e k.to.0 (other_edge e))) c;
      coefs = λ k x c n. coef_out_most m (greatest_at mi b i e k.to.0) k.cap x t a (greatest_many mi g h (b i e k.to.0 (other_edge e))) c n;
    } in
    record {
      arcs = refl;
      given = refl;
      loads = λ b i e. record {
        least = load_up m other (least_at mi b i e) n (low b i e) w;
        most = load_down m other (greatest_at mi b i e) n (high b i e) w;
      };
      wires = λ b i e sink. record {
        least = sinks_up m other (least_at mi b i e) n.couplings n.sinks sink (low b i e) w.caps w.sinks;
        most = sinks_down m other (greatest_at mi b i e) n.couplings n.sinks sink (high b i e) w.caps w.sinks;
      };
    }

-- and what comes from ground makes them no narrower
pub from_ground : (mi : MillerNumbers) (m : Move) (other : ℕ) (n : Net) → IsMiller mi → mi.mid ≡ 4 → IsFromGround m → HasSums n → IsInward mi n (net_left m other n)
from_ground mi m other n g h t w =
    let low : (b : Answers) (i : ℕ) (e : Edge) → CountNoMore m (least_at mi b i e) = λ b i e. record {
      caps = λ k c. cap_in_least m (least_at mi b i e k.to.0) k.cap t (least_few mi g h (b i e k.to.0 e)) c;
      coefs = λ k x c n. coef_in_least m (least_at mi b i e k.to.0) k.cap x t (least_few mi g h (b i e k.to.0 e)) n;
    } in
    let high : (b : Answers) (i : ℕ) (e : Edge) → CountNoLess m (greatest_at mi b i e) = λ b i e. record {
      caps = λ k c. cap_in_most m (greatest_at mi b i e k.to.0) k.cap t (greatest_many mi g h (b i e k.to.0 (other_edge e))) c;
      coefs = λ k x c n. coef_in_most m (greatest_at mi b i e k.to.0) k.cap x t (greatest_many mi g h (b i e k.to.0 (other_edge e))) n;
    } in
    record {
      arcs = refl;
      given = refl;
      loads = λ b i e. record {
        least = load_down m other (least_at mi b i e) n (low b i e) w;
        most = load_up m other (greatest_at mi b i e) n (high b i e) w;
      };
      wires = λ b i e sink. record {
        least = sinks_down m other (least_at mi b i e) n.couplings n.sinks sink (low b i e) w.caps w.sinks;
        most = sinks_up m other (greatest_at mi b i e) n.couplings n.sinks sink (high b i e) w.caps w.sinks;
      };
    }
