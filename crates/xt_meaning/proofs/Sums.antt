-- Sums of factors and products leave room in 128 bits.
use Rattle.std.proofs.Common.{◌≡◌, ℕ, ◌*◌, ◌^◌, ◌≤◌, subst, List, [], ◌∷◌, length, map, get_or, ℤ, pos, negsuc, ◌+ℤ◌, ◌*ℤ◌, ◌≤ℤ◌, arith, mul-le-mul_right}
use Rattle.std.specs.Prelude.{Some}
use Rattle.std.specs.Int.{int_div_euclid}
use Rattle.std.specs.List.{All, Contains, slice_get}
use Rattle.std.proofs.lemmas.Int.{ints}
use Rattle.std.proofs.lemmas.List.Elements.{All-head, All-tail, All-weaker, All-contains}
use Rattle.std.proofs.lemmas.List.Sums.{get_or-le-sum_by}
use Rattle.std.proofs.lemmas.Option.{slice_get_within, get_or_from_slice_get}
use Rattle.xt_model.specs.declared.net.Coupling.{Coupling}
use Rattle.xt_model.specs.declared.net.SinkPin.{SinkPin}
use Rattle.xt_model.specs.declared.net.Net.{Net}
use Rattle.xt_model.specs.Limits.{most_factor, most_couplings}
use Rattle.xt_model.specs.Parts.{Parts}
use Rattle.xt_model.specs.Sound.{IsSound, IsSoundNet, IsSoundSink, IsSoundCoupling, IsBetween, IsProduct, coupling_sum}
use Rattle.xt_meaning.specs.Wires.{product_sum, cap_sum, load_of}
use Rattle.xt_meaning.proofs.Growth.{IsNatural, HasNaturalCap, natural_caps}
use Rattle.xt_meaning.proofs.Meeting.{floor_to}
use Rattle.xt_meaning.proofs.Room.{product_sum_natural, floor_natural}
use Rattle.xt_meaning.proofs.Limits.{sound_at}

abbrev pub IsFactor : ℕ → Type 0
IsFactor m = m ≤ most_factor

-- ---- products of wires
scaled_most : (m : ℕ) (c : ℤ) → IsFactor m → IsProduct c → (pos m *ℤ c) ≤ℤ pos (12 * 2 ^ 102)
scaled_most m (pos n) h p = let k : m * n ≤ 12 * n = mul-le-mul_right n h in omega (arith, ints, p.most)
scaled_most m (negsuc n) h p = absurd (omega (arith, ints, p.least))

products_most : (ms : List ℕ) (cs : List ℤ) → All IsFactor ms → All IsProduct cs → product_sum ms cs ≤ℤ pos ((12 * 2 ^ 102) * length cs)
products_most [] cs h p = omega (arith, ints)
products_most (m ∷ ms) [] h p = omega (arith, ints)
products_most (m ∷ ms) (c ∷ cs) h p =
    let x = scaled_most m c (All-head IsFactor m ms h) (All-head IsProduct c cs p) in
    let y = products_most ms cs (All-tail IsFactor m ms h) (All-tail IsProduct c cs p) in
    omega (arith, ints, x, y)

-- a net has no more couplings than all nets together may have
pub few_couplings : (d : Parts) (n : ℕ) (net : Net) → IsSound d → slice_get d.nets n ≡ Some net → length net.couplings ≤ most_couplings
few_couplings d n net s there =
    let inside = slice_get_within d.nets n net there in
    let is : get_or d.nets n net ≡ net = get_or_from_slice_get d.nets n net net there in
    let most = get_or-le-sum_by (λ m. length m.couplings) d.nets n net inside in
    let P : Net → Type 0 = λ m. length m.couplings ≤ most_couplings in
    subst P is (omega (arith, most, s.limits.couplings))

pub wires_have_room : (d : Parts) (n : ℕ) (net : Net) (s : SinkPin) (ms : List ℕ) → IsSound d → slice_get d.nets n ≡ Some net → Contains net.sinks s → All IsFactor ms
    → IsBetween (pos 0) (pos (2 ^ 126)) ((pos 4 *ℤ s.base) +ℤ product_sum ms s.coefs)
wires_have_room d n net s ms sound there has h =
    let k = sound_at d n net sound there in
    let p = All-contains (IsSoundSink (length net.couplings)) net.sinks s k.sinks has in
    let low = product_sum_natural ms s.coefs (All-weaker IsProduct IsNatural (λ c g. g.least) s.coefs p.coefs) in
    let high = products_most ms s.coefs h p.coefs in
    let few = few_couplings d n net sound there in
    let count : length s.coefs ≤ most_couplings = omega (arith, p.count, few) in
    record { least = omega (arith, ints, low, p.base.least); most = omega (arith, ints, high, count, p.base.most) }

-- ---- capacitors
pub coupling_sum_natural : (ks : List Coupling) → All HasNaturalCap ks → IsNatural (coupling_sum ks)
coupling_sum_natural [] h = omega (arith, ints)
coupling_sum_natural (k ∷ ks) h =
    let x : pos 0 ≤ℤ k.cap = All-head HasNaturalCap k ks h in
    let y : pos 0 ≤ℤ coupling_sum ks = coupling_sum_natural ks (All-tail HasNaturalCap k ks h) in
    omega (arith, ints, x, y)

pub scaled_cap : (m : ℕ) (c : ℤ) → IsFactor m → IsNatural c → (pos m *ℤ c) ≤ℤ (pos 12 *ℤ c)
scaled_cap m (pos n) h p = let k : m * n ≤ 12 * n = mul-le-mul_right n h in omega (arith, ints)
scaled_cap m (negsuc n) h p = absurd (omega (arith, ints))

caps_most : (ms : List ℕ) (ks : List Coupling) → All IsFactor ms → All HasNaturalCap ks → cap_sum ms ks ≤ℤ (pos 12 *ℤ coupling_sum ks)
caps_most [] ks h p = let y : pos 0 ≤ℤ coupling_sum ks = coupling_sum_natural ks p in omega (arith, ints, y)
caps_most (m ∷ ms) [] h p = omega (arith, ints)
caps_most (m ∷ ms) (k ∷ ks) h p =
    let x = scaled_cap m k.cap (All-head IsFactor m ms h) (All-head HasNaturalCap k ks p) in
    let y = caps_most ms ks (All-tail IsFactor m ms h) (All-tail HasNaturalCap k ks p) in
    omega (arith, ints, x, y)

pub natural_couplings : (d : Parts) (n : ℕ) (net : Net) → IsSoundNet d n net → All HasNaturalCap net.couplings
natural_couplings d n net k = All-weaker (IsSoundCoupling d n) HasNaturalCap (λ c h. h.cap.least) net.couplings k.couplings

pub caps_have_room : (d : Parts) (n : ℕ) (net : Net) (ms : List ℕ) → IsSound d → slice_get d.nets n ≡ Some net → All IsFactor ms
    → IsBetween (pos 0) (pos (2 ^ 49)) (cap_sum ms net.couplings)
caps_have_room d n net ms sound there h =
    let k = sound_at d n net sound there in
    let caps = natural_couplings d n net k in
    let low = product_sum_natural ms (map (λ c. c.cap) net.couplings) (natural_caps net.couplings caps) in
    let high = caps_most ms net.couplings h caps in
    record { least = low; most = omega (arith, ints, high, k.most_load, k.load.least) }

pub loads_have_room : (d : Parts) (n : ℕ) (net : Net) (ms : List ℕ) → IsSound d → slice_get d.nets n ≡ Some net → All IsFactor ms
    → IsBetween (pos 0) (pos (2 ^ 47)) (load_of ms net)
loads_have_room d n net ms sound there h =
    let k = sound_at d n net sound there in
    let caps = natural_couplings d n net k in
    let low = product_sum_natural ms (map (λ c. c.cap) net.couplings) (natural_caps net.couplings caps) in
    let quarter : pos 0 ≤ℤ int_div_euclid (cap_sum ms net.couplings) (pos 4) = floor_natural (cap_sum ms net.couplings) 4 low in
    let high = caps_most ms net.couplings h caps in
    let whole : (int_div_euclid (cap_sum ms net.couplings) (pos 4) *ℤ pos 4) ≤ℤ cap_sum ms net.couplings =
    floor_to (int_div_euclid (cap_sum ms net.couplings) (pos 4)) (cap_sum ms net.couplings) 4 (omega arith) (omega (arith, ints)) in
    record { least = omega (arith, ints, quarter, k.load.least); most = omega (arith, ints, high, whole, k.most_load, k.load.least) }
