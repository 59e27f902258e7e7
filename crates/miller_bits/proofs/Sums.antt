-- Sums over the couplings of a net, one coupling at a time.
use Rattle.std.proofs.Common.{◌≡◌, ℕ, zero, suc, ◌+◌, ◌*◌, ◌^◌, ◌<◌, ◌≤◌, refl, sym, ◌∙◌, subst, List, [], ◌∷◌, length, drop, get_or, ℤ, pos, negsuc, ◌+ℤ◌, ◌*ℤ◌, ◌≤ℤ◌, to_z, of_z, w64, arith}
use Rattle.std.specs.Prelude.{Option, Some, IfSome}
use Rattle.std.specs.List.{All, slice_get}
use Rattle.std.specs.Int.{int_div_euclid, w128}
use Rattle.std.specs.Int.Signed.{mag}
use Rattle.std.proofs.lemmas.Int.{ints}
use Rattle.std.proofs.lemmas.Option.{get_or_from_slice_get, slice_get_within, slice_get_read}
use Rattle.std.proofs.lemmas.List.{at_drop_more, at_drop_all}
use Rattle.std.proofs.lemmas.List.Elements.{All-head, All-tail}
use Rattle.xt_model.specs.declared.net.Coupling.{Coupling}
use Rattle.xt_model.specs.declared.net.SinkPin.{SinkPin}
use Rattle.xt_model.specs.declared.net.Net.{Net}
use Rattle.xt_model.specs.declared.edge.Edge.{Edge}
use Rattle.xt_model.specs.Miller.{MillerNumbers}
use Rattle.xt_model.specs.Parts.{Parts}
use Rattle.xt_meaning.specs.Overlap.{all_overlap, least_factors, greatest_factors}
use Rattle.xt_model.specs.Sound.{IsSoundNet, IsSoundCoupling, IsSoundSink, IsCap, IsProduct, coupling_sum}
use Rattle.xt_meaning.specs.Wires.{product_sum, cap_sum, elmore_delay, load_of, wire_delay}
use Rattle.xt_meaning.proofs.Growth.{HasNaturalCap, IfSome_from_All}
use Rattle.xt_meaning.proofs.Room.{floor_natural}
use Rattle.xt_meaning.proofs.Sums.{scaled_cap, coupling_sum_natural, natural_couplings}

-- what holds of the element that is there
pub found : {X : Type 0} (P : X → Type 0) (o : Option X) (x : X) → o ≡ Some x → IfSome o P → P x
found P o x e h = let Q : Option _ → Type 0 = λ o. IfSome o P in subst Q e h

-- and back
pub held : {X : Type 0} (P : X → Type 0) (o : Option X) (x : X) → o ≡ Some x → P x → IfSome o P
held P o x e h = let Q : Option _ → Type 0 = λ o. IfSome o P in subst Q (sym e) h

pub scaled_natural : (a : ℕ) (c : ℤ) → pos 0 ≤ℤ c → pos 0 ≤ℤ (pos a *ℤ c)
scaled_natural a (pos n) h = omega (arith, ints)
scaled_natural a (negsuc n) h = absurd (omega (arith, ints))

-- a sum of capacitances so far: with the couplings from number i on it is the whole
pub record IsCapSoFar (ms : List ℕ) (ks : List Coupling) (i : ℕ) (sum : ℤ) : Type 0 where
  pub rest : (sum +ℤ cap_sum (drop i ms) (drop i ks)) ≡ cap_sum ms ks
  pub low : pos 0 ≤ℤ sum
  pub high : sum ≤ℤ pos (2 ^ 50)
  pub room : (sum +ℤ (pos 12 *ℤ coupling_sum (drop i ks))) ≤ℤ (pos 12 *ℤ coupling_sum ks)

All-drop : {X : Type 0} (P : X → Type 0) (xs : List X) (i : ℕ) → All P xs → All P (drop i xs)
All-drop P xs zero h = h
All-drop P [] (suc i) h = h
All-drop P (x ∷ xs) (suc i) h = All-drop P xs i (All-tail P x xs h)

pub All-at : {X : Type 0} (P : X → Type 0) (xs : List X) (i : ℕ) (d : X) → All P xs → i < length xs → P (get_or xs i d)
All-at P [] i d h p = absurd (omega arith)
All-at P (x ∷ xs) zero d h p = All-head P x xs h
All-at P (x ∷ xs) (suc i) d h p = All-at P xs i d (All-tail P x xs h) (omega arith)

pub cap_at : (d : Parts) (own : ℕ) (n : Net) (ks : List Coupling) (i : ℕ) (k : Coupling) → IsSoundNet d own n → ks ≡ n.couplings → i < length ks → IsCap (get_or ks i k).cap
cap_at d own n ks i k s same i_in = rw same ((All-at (IsSoundCoupling d own) n.couplings i k s.couplings (rw same at i_in)).cap)

pub cap_start : (ms : List ℕ) (ks : List Coupling) → IsCapSoFar ms ks 0 (pos 0)
cap_start ms ks = record { rest = omega (arith, ints); low = omega (arith, ints); high = omega (arith, ints); room = omega (arith, ints) }

-- the factor and the coupling of this number come off the rest of the sum
rest_more : (ms : List ℕ) (ks : List Coupling) (i m : ℕ) (k : Coupling) → i < length ms → i < length ks
    → cap_sum (drop i ms) (drop i ks) ≡ (pos (get_or ms i m) *ℤ (get_or ks i k).cap) +ℤ cap_sum (drop (i + 1) ms) (drop (i + 1) ks)
rest_more ms ks i m k m_in k_in =
    at_drop_more (λ r. cap_sum r (drop i ks)) ms i m m_in ∙ at_drop_more (cap_sum (get_or ms i m ∷ drop (i + 1) ms)) ks i k k_in

cap_step : (d : Parts) (own : ℕ) (n : Net) (ms : List ℕ) (i : ℕ) (k : Coupling) (sum x : ℤ) (m : ℕ) → IsSoundNet d own n → m ≤ 12 → i < length n.couplings
    → slice_get ms i ≡ Some m → x ≡ pos m *ℤ (get_or n.couplings i k).cap → IsCapSoFar ms n.couplings i sum → IsCapSoFar ms n.couplings (i + 1) (sum +ℤ x)
cap_step d own n ms i k sum x m s few i_in is_m is_x h =
    let c = get_or n.couplings i k in
    let caps = natural_couplings d own n s in
    let cap = All-at HasNaturalCap n.couplings i k caps i_in in
    let step = rest_more ms n.couplings i m k (slice_get_within ms i m is_m) i_in in
    let less : coupling_sum (drop i n.couplings) ≡ c.cap +ℤ coupling_sum (drop (i + 1) n.couplings) = at_drop_more coupling_sum n.couplings i k i_in in
    let m_is : get_or ms i m ≡ m = get_or_from_slice_get ms i m m is_m in
    let same : x ≡ pos (get_or ms i m) *ℤ c.cap = rw is_x (rw m_is refl) in
    let here = scaled_natural m c.cap cap in
    let most = scaled_cap m c.cap few cap in
    let after = coupling_sum_natural (drop (i + 1) n.couplings) (All-drop HasNaturalCap n.couplings (i + 1) caps) in
    record {
      rest = omega (arith, ints, h.rest, step, same);
      low = omega (arith, ints, h.low, is_x, here);
      high = omega (arith, ints, h.room, less, is_x, most, after, s.most_load, s.load.least);
      room = omega (arith, ints, h.room, less, is_x, most);
    }

pub cap_turn : (d : Parts) (own : ℕ) (n : Net) (ms : List ℕ) (ks : List Coupling) (i : ℕ) (k : Coupling) (sum x cap : ℤ) (m : ℕ) → IsSoundNet d own n → m ≤ 12
    → ks ≡ n.couplings → i < length ks → slice_get ms i ≡ Some m → cap ≡ (get_or ks i k).cap → x ≡ pos m *ℤ cap
    → IsCapSoFar ms ks i sum → IsCapSoFar ms ks (i + 1) (sum +ℤ x)
cap_turn d own n ms ks i k sum x cap m s few is_ks i_in is_m is_cap is_x h =
    rw is_ks (cap_step d own n ms i k sum x m s few (rw is_ks at i_in) is_m (rw (is_cap, is_ks) at is_x) (rw is_ks at h))

-- what is stored is the same
pub cap_stored : (ms : List ℕ) (ks : List Coupling) (i : ℕ) (sum stored : ℤ) → stored ≡ sum → IsCapSoFar ms ks i sum → IsCapSoFar ms ks i stored
cap_stored ms ks i sum stored e h = rw e h

-- no coefficient is left
none_left : (ms : List ℕ) → product_sum ms [] ≡ pos 0
none_left [] = refl
none_left (m ∷ ms) = refl

pub cap_end : (ms : List ℕ) (ks : List Coupling) (i : ℕ) (sum : ℤ) → length ks ≤ i → IsCapSoFar ms ks i sum → sum ≡ cap_sum ms ks
cap_end ms ks i sum i_past h =
    let e : cap_sum (drop i ms) (drop i ks) ≡ pos 0 = at_drop_all (cap_sum (drop i ms)) ks i i_past ∙ none_left (drop i ms) in
    omega (arith, ints, h.rest, e)

-- a sum so far of a sink's base and coefficients: with the coefficients from number i on it is the whole sum
pub record IsSumSoFar (ms : List ℕ) (cs : List ℤ) (base : ℤ) (i : ℕ) (sum : ℤ) : Type 0 where
  pub rest : (sum +ℤ product_sum (drop i ms) (drop i cs)) ≡ (pos 4 *ℤ base) +ℤ product_sum ms cs
  pub low : pos 0 ≤ℤ sum
  pub high : sum ≤ℤ (pos (2 ^ 104) +ℤ pos (12 * 2 ^ 102 * i))

pub sum_start : (ms : List ℕ) (cs : List ℤ) (base sum : ℤ) → IsProduct base → sum ≡ pos 4 *ℤ base → IsSumSoFar ms cs base 0 sum
sum_start ms cs base sum h e = record { rest = rw e refl; low = omega (arith, ints, h.least, e); high = omega (arith, ints, h.most, e) }

-- the coefficient number i, as it is stored
pub coef_of : (xs cs : List ℤ) (i : ℕ) → All IsProduct cs → xs ≡ cs → i < length xs → IsProduct (get_or xs i (pos 0))
coef_of xs cs i h same i_in = rw same (All-at IsProduct cs i (pos 0) h (rw same at i_in))

pub coef_stored : (xs cs : List ℤ) (i : ℕ) → All IsProduct cs → xs ≡ cs → i < length xs → to_z w128 (of_z w128 (get_or xs i (pos 0))) ≡ get_or cs i (pos 0)
coef_stored xs cs i h same i_in = let k = coef_of xs cs i h same i_in in rw same (plain (get_or cs i (pos 0)) (rw same at k)) where
  plain : (x : ℤ) → IsProduct x → to_z w128 (of_z w128 x) ≡ x
  plain x k = omega (arith, ints, k.least, k.most)

pub sum_turn : (ms : List ℕ) (cs : List ℤ) (base : ℤ) (i : ℕ) (c : ℤ) (sum x coef : ℤ) (m : ℕ)
    → i < length cs → slice_get ms i ≡ Some m → coef ≡ get_or cs i c → x ≡ pos m *ℤ coef → pos 0 ≤ℤ x → x ≤ℤ pos (12 * 2 ^ 102)
    → IsSumSoFar ms cs base i sum → IsSumSoFar ms cs base (i + 1) (sum +ℤ x)
sum_turn ms cs base i c sum x coef m i_in is_m is_coef is_x low high h =
    let step : product_sum (drop i ms) (drop i cs) ≡ product_sum (get_or ms i m ∷ drop (i + 1) ms) (drop i cs) = at_drop_more (λ r. product_sum r (drop i cs)) ms i m (slice_get_within ms i m is_m) in
    let more : product_sum (get_or ms i m ∷ drop (i + 1) ms) (drop i cs) ≡ (pos (get_or ms i m) *ℤ get_or cs i c) +ℤ product_sum (drop (i + 1) ms) (drop (i + 1) cs) =
    at_drop_more (product_sum (get_or ms i m ∷ drop (i + 1) ms)) cs i c i_in in
    let m_is : get_or ms i m ≡ m = get_or_from_slice_get ms i m m is_m in
    let x_is : x ≡ pos (get_or ms i m) *ℤ get_or cs i c = rw is_x (rw (m_is, is_coef) refl) in
    record {
      rest = omega (arith, ints, h.rest, step, more, x_is);
      low = omega (arith, ints, h.low, low);
      high = omega (arith, ints, h.high, high);
    }

-- what is stored is the same
pub sum_stored : (ms : List ℕ) (cs : List ℤ) (base : ℤ) (i : ℕ) (sum stored : ℤ) → stored ≡ sum → IsSumSoFar ms cs base i sum → IsSumSoFar ms cs base i stored
sum_stored ms cs base i sum stored e h = rw e h

pub sum_end : (ms : List ℕ) (cs : List ℤ) (base : ℤ) (i : ℕ) (sum : ℤ) → length cs ≤ i → IsSumSoFar ms cs base i sum → sum ≡ (pos 4 *ℤ base) +ℤ product_sum ms cs
sum_end ms cs base i sum i_past h =
    let e : product_sum (drop i ms) (drop i cs) ≡ pos 0 = at_drop_all (product_sum (drop i ms)) cs i i_past ∙ none_left (drop i ms) in
    omega (arith, ints, h.rest, e)

-- ---- where every aggressor can switch either way at any time
pub least_of_all : (m : MillerNumbers) (n : ℕ) (e : Edge) (ks : List Coupling) (i x : ℕ) → i < length ks → x ≡ m.low → slice_get (least_factors m all_overlap n e ks) i ≡ Some x
least_of_all m n e [] i x i_in is = absurd (omega arith)
least_of_all m n e (k ∷ ks) zero x i_in is = rw is refl
least_of_all m n e (k ∷ ks) (suc i) x i_in is = least_of_all m n e ks i x (omega arith) is

pub greatest_of_all : (m : MillerNumbers) (n : ℕ) (e : Edge) (ks : List Coupling) (i x : ℕ) → i < length ks → x ≡ m.high → slice_get (greatest_factors m all_overlap n e ks) i ≡ Some x
greatest_of_all m n e [] i x i_in is = absurd (omega arith)
greatest_of_all m n e (k ∷ ks) zero x i_in is = rw is refl
greatest_of_all m n e (k ∷ ks) (suc i) x i_in is = greatest_of_all m n e ks i x (omega arith) is

-- ---- sums as they are stored
pub kept_64 : (x : ℤ) → mag x < 9223372036854775808 → to_z w64 (of_z w64 x) ≡ x
kept_64 x h = omega (arith, ints, h)

pub stored_64 : (a r : ℤ) → pos 0 ≤ℤ r → r ≤ℤ pos (2 ^ 50) → pos 0 ≤ℤ (a +ℤ r) → (a +ℤ r) ≤ℤ pos (2 ^ 50) → to_z w64 (of_z w64 (a +ℤ to_z w64 (of_z w64 r))) ≡ a +ℤ r
stored_64 a r p q s t = let e : to_z w64 (of_z w64 r) ≡ r = omega (arith, ints) in rw e (omega (arith, ints))

pub stored_128 : (a r : ℤ) → pos 0 ≤ℤ r → r ≤ℤ pos (12 * 2 ^ 102) → pos 0 ≤ℤ (a +ℤ r) → (a +ℤ r) ≤ℤ pos (2 ^ 126) → to_z w128 (of_z w128 (a +ℤ to_z w128 (of_z w128 r))) ≡ a +ℤ r
stored_128 a r p q s t = let e : to_z w128 (of_z w128 r) ≡ r = omega (arith, ints) in rw e (omega (arith, ints))

-- a sum so far fits 128 bits
pub sum_most : (ms : List ℕ) (cs : List ℤ) (base : ℤ) (i : ℕ) (sum : ℤ) → i ≤ 1048576 → IsSumSoFar ms cs base i sum → sum ≤ℤ pos (2 ^ 126)
sum_most ms cs base i sum few h = omega (arith, ints, h.high)

-- ---- loads and wires
pub load_is : (ms : List ℕ) (n : Net) (stored load ground quarters sum : ℤ) → stored ≡ load → load ≡ ground +ℤ int_div_euclid quarters (pos 4)
    → ground ≡ n.load → quarters ≡ sum → sum ≡ cap_sum ms n.couplings → stored ≡ load_of ms n
load_is ms n stored load ground quarters sum is_stored is_load is_ground is_quarters is_sum = rw (is_stored, is_load, is_ground, is_quarters, is_sum) refl

pub wire_is : (ms : List ℕ) (n : Net) (sink : ℕ) (pin : SinkPin) (delay read sum kept : ℤ) → slice_get n.sinks sink ≡ Some pin
    → delay ≡ read → read ≡ elmore_delay sum → sum ≡ kept → kept ≡ (pos 4 *ℤ pin.base) +ℤ product_sum ms pin.coefs → delay ≡ wire_delay ms n sink
wire_is ms n sink pin delay read sum kept there is_delay is_read is_sum is_kept = rw (there, is_delay, is_read, is_sum, is_kept) refl

-- a delay is natural and small where its sum is
pub delay_natural : (sum read delay stored : ℤ) → pos 0 ≤ℤ sum → read ≡ sum → delay ≡ elmore_delay read → stored ≡ delay → pos 0 ≤ℤ stored
delay_natural sum read delay stored h is_read is is_stored = rw (is_stored, is, is_read) (floor_natural sum 4000000 h)

pub delay_small : (sum read delay stored : ℤ) → sum ≤ℤ pos (2 ^ 126) → read ≡ sum → delay ≡ elmore_delay read → stored ≡ delay → stored ≤ℤ pos (2 ^ 105)
delay_small sum read delay stored h is_read is is_stored = rw (is_stored, is, is_read) (floor_small sum h) where
  floor_small : (x : ℤ) → x ≤ℤ pos (2 ^ 126) → int_div_euclid x (pos 4000000) ≤ℤ pos (2 ^ 105)
  floor_small (pos n) h = omega (arith, ints)
  floor_small (negsuc n) h = omega (arith, ints)

-- the sink of this number, as it is read
pub pin_at : (xs pins : List SinkPin) (i : ℕ) (p : SinkPin) → xs ≡ pins → i < length pins → p ≡ get_or xs i p → slice_get pins i ≡ Some p
pin_at xs pins i p same i_in is = slice_get_read pins (length pins) i p refl i_in (rw same at is)

-- a sink of a sound net is sound
pub pin_sound : (d : Parts) (own : ℕ) (n : Net) (sink : ℕ) (pin : SinkPin) → IsSoundNet d own n → slice_get n.sinks sink ≡ Some pin → IsSoundSink (length n.couplings) pin
pin_sound d own n sink pin s there = found (IsSoundSink (length n.couplings)) (slice_get n.sinks sink) pin there (IfSome_from_All (IsSoundSink (length n.couplings)) n.sinks s.sinks sink)
