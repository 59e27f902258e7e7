-- Shares over all moments: those of one period are all, and each is a part of the capacitance.
use Rattle.std.proofs.Common.{◌≡◌, ℕ, ◌^◌, ◌<◌, refl, sym, ap, subst, ◌+◌, ◌≤◌, Bool, true, false, ◌&&◌, List, [], ◌∷◌, length, drop, get_or, ℤ, pos, negsuc, ◌+ℤ◌, ◌≤ℤ◌, arith}
use Rattle.std.specs.Prelude.{Option, Some, None, if◌then◌else◌}
use Rattle.std.specs.Int.{int_rem_euclid}
use Rattle.std.specs.List.{All}
use Rattle.std.proofs.lemmas.Int.{ints}
use Rattle.std.proofs.lemmas.List.{at_drop_more, at_drop_all}
use Rattle.std.proofs.lemmas.List.Elements.{All-head, All-tail, All-drop}
use Rattle.xt_model.specs.declared.edge.Edge.{Edge}
use Rattle.xt_model.specs.declared.net.Coupling.{Coupling}
use Rattle.xt_model.specs.Quads.{is_live}
use Rattle.xt_model.specs.declared.net.Net.{Net}
use Rattle.xt_model.specs.Parts.{Parts}
use Rattle.xt_model.specs.Sound.{IsCap, IsSoundNet, IsSoundCoupling, coupling_sum}
use Rattle.xt_model.specs.Assign.{Assignment}
use Rattle.xt_meaning.specs.Overlap.{IsRealPeriod, active_from, active_to}
use Rattle.xt_meaning.proofs.Growth.{HasNaturalCap}
use Rattle.xt_meaning.proofs.Sums.{coupling_sum_natural, natural_couplings}
use Rattle.miller_bits.proofs.Sums.{All-at}
use Rattle.glitch_noise.specs.Shares.{is_under_way, part_of, share_of}
use Rattle.glitch_noise.specs.Peaks.{IsMoment}
use Rattle.glitch_noise.proofs.Periods.{IsSplit, split_of, same_meeting}

share_moved : (d : ℕ) (W : Assignment) (e : Edge) (ks : List Coupling) (m q r : ℤ) → 0 < d → IsSplit d m q r → share_of (Some (pos d)) W e m ks ≡ share_of (Some (pos d)) W e r ks
share_moved d W e [] m q r p s = refl
share_moved d W e (k ∷ ks) m q r p s =
    let w = W k.to.0 e in
    let h = same_meeting d (active_from w) (active_to w) m q r p s in
    let a : part_of (Some (pos d)) W e m k ≡ part_of (Some (pos d)) W e r k = ap (λ t. if is_live w && t then k.cap else pos 0) h in
    let b = share_moved d W e ks m q r p s in
    omega (arith, ints, a, b)

-- each share is one of a moment that counts
pub counted : (period : Option ℤ) (W : Assignment) (e : Edge) (ks : List Coupling) (m : ℤ) → IsRealPeriod period
    → (r : ℤ) × IsMoment period r × (share_of period W e m ks ≡ share_of period W e r ks)
counted None W e ks m real = (m, tt, refl)
counted (Some (pos d)) W e ks m real =
    let p : 0 < d = omega (arith, ints, real) in
    let s = split_of m d p in
    (int_rem_euclid m (pos d), (s.1.low, s.1.high), share_moved d W e ks m s.0 (int_rem_euclid m (pos d)) p s.1)
counted (Some (negsuc d)) W e ks m real = absurd (omega (arith, ints, real))

pub part_natural : (period : Option ℤ) (W : Assignment) (e : Edge) (m : ℤ) (k : Coupling) → pos 0 ≤ℤ k.cap → pos 0 ≤ℤ part_of period W e m k
part_natural period W e m k h = by_test (is_under_way period (W k.to.0 e) m)
  where
    by_test : (t : Bool) → pos 0 ≤ℤ (if t then k.cap else pos 0)
    by_test true = h
    by_test false = omega (arith, ints)

pub part_most : (period : Option ℤ) (W : Assignment) (e : Edge) (m : ℤ) (k : Coupling) → pos 0 ≤ℤ k.cap → part_of period W e m k ≤ℤ k.cap
part_most period W e m k h = by_test (is_under_way period (W k.to.0 e) m)
  where
    by_test : (t : Bool) → (if t then k.cap else pos 0) ≤ℤ k.cap
    by_test true = omega (arith, ints)
    by_test false = h

pub share_part : (period : Option ℤ) (W : Assignment) (e : Edge) (m : ℤ) (ks : List Coupling) → All HasNaturalCap ks → share_of period W e m ks ≤ℤ coupling_sum ks
share_part period W e m [] h = omega (arith, ints)
share_part period W e m (k ∷ ks) h =
    let n : pos 0 ≤ℤ k.cap = All-head HasNaturalCap k ks h in
    let a = part_most period W e m k n in
    let b = share_part period W e m ks (All-tail HasNaturalCap k ks h) in
    omega (arith, ints, a, b)

-- a share so far: with the couplings from number i on it is the whole, and it leaves room for them
pub record IsShareSoFar (period : Option ℤ) (W : Assignment) (e : Edge) (m : ℤ) (ks : List Coupling) (i : ℕ) (sum : ℤ) : Type 0 where
  pub rest : (sum +ℤ share_of period W e m (drop i ks)) ≡ share_of period W e m ks
  pub low : pos 0 ≤ℤ sum
  pub room : (sum +ℤ coupling_sum (drop i ks)) ≤ℤ coupling_sum ks

pub share_turn : (period : Option ℤ) (W : Assignment) (e : Edge) (m : ℤ) (ks : List Coupling) (i : ℕ) (k : Coupling) (sum push : ℤ)
    → i < length ks → pos 0 ≤ℤ (get_or ks i k).cap → push ≡ part_of period W e m (get_or ks i k) → IsShareSoFar period W e m ks i sum → IsShareSoFar period W e m ks (i + 1) (sum +ℤ push)
share_turn period W e m ks i k sum push within natural is h =
    let x = get_or ks i k in
    let a = part_natural period W e m x natural in
    let b = part_most period W e m x natural in
    let s : share_of period W e m (drop i ks) ≡ part_of period W e m x +ℤ share_of period W e m (drop (i + 1) ks) = at_drop_more (share_of period W e m) ks i k within in
    let c : coupling_sum (drop i ks) ≡ x.cap +ℤ coupling_sum (drop (i + 1) ks) = at_drop_more coupling_sum ks i k within in
    record {
      rest = let r = h.rest in omega (arith, ints, r, s, is);
      low = let r = h.low in omega (arith, ints, r, a, is);
      room = let r = h.room in omega (arith, ints, r, b, c, is);
    }

-- in a sound net it fits
pub share_room : (d : Parts) (n : ℕ) (net : Net) (W : Assignment) (e : Edge) (m : ℤ) (ks : List Coupling) (i : ℕ) (sum : ℤ) → IsSoundNet d n net → ks ≡ net.couplings
    → IsShareSoFar d.period W e m ks i sum → (pos 0 ≤ℤ sum) × (sum ≤ℤ pos (2 ^ 46))
share_room d n net W e m ks i sum sound same h =
    let natural : All HasNaturalCap ks = subst (All HasNaturalCap) (sym same) (natural_couplings d n net sound) in
    let left : pos 0 ≤ℤ coupling_sum (drop i ks) = coupling_sum_natural (drop i ks) (All-drop HasNaturalCap i ks natural) in
    let all : coupling_sum ks ≡ coupling_sum net.couplings = ap coupling_sum same in
    let whole : pos 0 ≤ℤ coupling_sum net.couplings = coupling_sum_natural net.couplings (natural_couplings d n net sound) in
    let r = h.room in
    let most = sound.most_load in
    let load = sound.load.least in
    (h.low, omega (arith, ints, r, left, all, whole, most, load))

-- a coupling of a sound net, as it is read
pub cap_at : (d : Parts) (n : ℕ) (net : Net) (ks : List Coupling) (i : ℕ) (k : Coupling) → IsSoundNet d n net → ks ≡ net.couplings → i < length ks → IsCap (get_or ks i k).cap
cap_at d n net ks i k sound same within =
    (All-at (IsSoundCoupling d n) ks i k (subst (All (IsSoundCoupling d n)) (sym same) sound.couplings) within).cap

pub share_next : (d : Parts) (n : ℕ) (net : Net) (W : Assignment) (e : Edge) (m : ℤ) (ks : List Coupling) (i : ℕ) (k : Coupling) (sum push : ℤ) → IsSoundNet d n net → ks ≡ net.couplings
    → i < length ks → push ≡ part_of d.period W e m (get_or ks i k) → IsShareSoFar d.period W e m ks i sum → IsShareSoFar d.period W e m ks (i + 1) (sum +ℤ push)
share_next d n net W e m ks i k sum push sound same within is h = share_turn d.period W e m ks i k sum push within (cap_at d n net ks i k sound same within).least is h

-- what is stored is the same
pub share_stored : (period : Option ℤ) (W : Assignment) (e : Edge) (m : ℤ) (ks : List Coupling) (i : ℕ) (sum stored : ℤ) → stored ≡ sum → IsShareSoFar period W e m ks i sum → IsShareSoFar period W e m ks i stored
share_stored period W e m ks i sum stored same h = let P : ℤ → Type 0 = λ s. IsShareSoFar period W e m ks i s in subst P (sym same) h

pub share_end : (period : Option ℤ) (W : Assignment) (e : Edge) (m : ℤ) (ks : List Coupling) (i : ℕ) (sum : ℤ) → length ks ≤ i → IsShareSoFar period W e m ks i sum → sum ≡ share_of period W e m ks
share_end period W e m ks i sum past h =
    let s : share_of period W e m (drop i ks) ≡ pos 0 = at_drop_all (share_of period W e m) ks i past in
    let r = h.rest in
    omega (arith, ints, r, s)
