-- The best of the changes of a net is its peak.
use Rattle.std.proofs.Common.{◌≡◌, ℕ, ◌^◌, ◌<◌, inl, inr, sym, ap, subst, ◌∙◌, List, [], ◌∷◌, ◌++◌, ℤ, pos, negsuc, ◌+ℤ◌, ◌-ℤ◌, ◌*ℤ◌, ◌≤ℤ◌, append-nil, arith}
use Rattle.std.specs.Prelude.{Option, Some, None}
use Rattle.std.specs.List.{slice_get}
use Rattle.std.specs.Int.{int_div_euclid}
use Rattle.std.proofs.lemmas.Int.{ints}
use Rattle.std.proofs.lemmas.List.Elements.{All-weaker}
use Rattle.xt_model.specs.declared.edge.Edge.{Edge}
use Rattle.xt_model.specs.declared.net.NetId.{NetId}
use Rattle.xt_model.specs.declared.net.Coupling.{Coupling}
use Rattle.xt_model.specs.declared.net.Net.{Net}
use Rattle.xt_model.specs.Parts.{Parts}
use Rattle.xt_model.specs.Sound.{IsSound, IsSoundNet, coupling_sum}
use Rattle.xt_model.specs.Assign.{Assignment}
use Rattle.xt_meaning.specs.Overlap.{IsRealPeriod}
use Rattle.xt_meaning.proofs.Growth.{wired}
use Rattle.xt_meaning.proofs.Sums.{coupling_sum_natural, natural_couplings}
use Rattle.miller_bits.proofs.Sums.{held}
use Rattle.glitch_noise.specs.declared.change.Change.{Change}
use Rattle.glitch_noise.specs.declared.peak.Peak.{Peak}
use Rattle.glitch_noise.specs.Shares.{share_of, couplings_of, share}
use Rattle.glitch_noise.specs.Peaks.{IsMoment, IsGreatest, IsCalm, IsPeak, EdgePeaks, EdgePeaksAt}
use Rattle.glitch_noise.specs.Changes.{sum_to, changes_of, IsBest}
use Rattle.glitch_noise.proofs.Tests.{le_or_gt}
use Rattle.glitch_noise.proofs.Sums.{sum_to-none, sum_to-same}
use Rattle.glitch_noise.proofs.Spans.{IsInside, changes_sum, changes_inside}
use Rattle.glitch_noise.proofs.Steady.{counted, share_part}

-- with a period the first moment with the greatest sum lies in the first period from 0 on
best_counts : (period : Option ℤ) (W : Assignment) (e : Edge) (ks : List Coupling) (most moment : ℤ) → IsRealPeriod period → pos 1 ≤ℤ most → IsBest (changes_of period W e ks) most moment → IsMoment period moment
best_counts None W e ks most moment real some b = tt
best_counts (Some (negsuc d)) W e ks most moment real some b = absurd (omega (arith, ints, real))
best_counts (Some (pos d)) W e ks most moment real some b = (low, high)
  where
    p : 0 < d
    p = omega (arith, ints, real)

    cs : List Change
    cs = changes_of (Some (pos d)) W e ks

    low : pos 0 ≤ℤ moment
    low = elim (le_or_gt (pos 0) moment) [
      | inl h ↦ h.1
      | inr h ↦ absurd (
          let k = h.1 in
          let none = sum_to-none moment cs (All-weaker (IsInside d) (λ c. (moment +ℤ pos 1) ≤ℤ c.at) (λ c i. (let x = i.0 in omega (arith, ints, x, k))) cs (changes_inside d W e ks p)) in
          let r = b.reached some in
          omega (arith, ints, none, r, some))
    ]

    high : (moment +ℤ pos 1) ≤ℤ pos d
    high = elim (le_or_gt (pos d) moment) [
      | inr h ↦ h.1
      | inl h ↦ absurd (
          let k = h.1 in
          let last : ℤ = pos d -ℤ pos 1 in
          let same : sum_to moment cs ≡ sum_to last cs = sum_to-same last moment cs (All-weaker (IsInside d) (λ c. c.at ≤ℤ last) (λ c i. (let x = i.1 in omega (arith, ints, x))) cs (changes_inside d W e ks p)) (omega (arith, ints, k)) in
          let f = b.first some last (sym same ∙ b.reached some) in
          omega (arith, ints, f, k))
    ]

module _ (period : Option ℤ) (W : Assignment) (e : Edge) (ks : List Coupling) (most moment : ℤ) (real : IsRealPeriod period) (b : IsBest (changes_of period W e ks) most moment) where
  share_bound : (m : ℤ) → share_of period W e m ks ≤ℤ most
  share_bound m =
      let r = counted period W e ks m real in
      let s = changes_sum period W e ks r.0 real r.1 in
      let h = b.bound r.0 in
      let t = r.2 in
      omega (arith, ints, s, h, t)

  greatest_is : pos 1 ≤ℤ most → IsGreatest period (λ m. share_of period W e m ks) most moment
  greatest_is some =
      let counts = best_counts period W e ks most moment real some b in
      record {
        bound = share_bound;
        counts = counts;
        reached = sym (changes_sum period W e ks moment real counts) ∙ b.reached some;
        first = λ m c h. b.first some m (changes_sum period W e ks m real c ∙ h);
      }

pub share_at : (d : Parts) (W : Assignment) (n : ℕ) (e : Edge) (net : Net) (m : ℤ) → slice_get d.nets n ≡ Some net → share d W n e m ≡ share_of d.period W e m net.couplings
unfolding share
share_at d W n e net m there = ap (λ o. share_of d.period W e m (couplings_of o)) there

greatest_same : (period : Option ℤ) (f g : ℤ → ℤ) (most moment : ℤ) → ((m : ℤ) → f m ≡ g m) → IsGreatest period g most moment → IsGreatest period f most moment
greatest_same period f g most moment same h = record {
  bound = λ m. (let e = same m in let b = h.bound m in omega (arith, ints, e, b));
  counts = h.counts;
  reached = same moment ∙ h.reached;
  first = λ m c e. h.first m c (sym (same m) ∙ e);
}

-- the greatest share of a net, for one edge of its aggressors
pub record IsTop (d : Parts) (W : Assignment) (n : ℕ) (net : Net) (e : Edge) (most moment : ℤ) : Type 0 where
  pub natural : pos 0 ≤ℤ most
  pub part : most ≤ℤ coupling_sum net.couplings
  pub small : most ≤ℤ pos (2 ^ 46)
  pub greatest : pos 1 ≤ℤ most → IsGreatest d.period (share d W n e) most moment
  pub calm : most ≤ℤ pos 0 → IsCalm (share d W n e)

pub top_is : (d : Parts) (W : Assignment) (n : ℕ) (net : Net) (e : Edge) (most moment : ℤ) (cs : List Change) → IsSound d → IsSoundNet d n net → slice_get d.nets n ≡ Some net
    → cs ≡ changes_of d.period W e net.couplings → IsBest cs most moment → IsTop d W n net e most moment
top_is d W n net e most moment cs whole sound there is best =
    let P : List Change → Type 0 = λ xs. IsBest xs most moment in
    let b = subst P is best in
    let real = (wired d whole).period in
    let natural = natural_couplings d n net sound in
    let bound = share_bound d.period W e net.couplings most moment real b in
    let sum : pos 0 ≤ℤ coupling_sum net.couplings = coupling_sum_natural net.couplings natural in
    let part : most ≤ℤ coupling_sum net.couplings = elim (le_or_gt (pos 1) most) [
      | inr x ↦ (let y = x.1 in omega (arith, ints, y, sum))
      | inl x ↦ (
          let counts = best_counts d.period W e net.couplings most moment real x.1 b in
          let s = changes_sum d.period W e net.couplings moment real counts in
          let r = b.reached x.1 in
          let h = share_part d.period W e moment net.couplings natural in
          omega (arith, ints, s, r, h))
    ] in
    let load = sound.most_load in
    let least = sound.load.least in
    record {
      natural = b.natural;
      part = part;
      small = omega (arith, ints, part, load, least, sum);
      greatest = λ some. greatest_same d.period (share d W n e) (λ m. share_of d.period W e m net.couplings) most moment (λ m. share_at d W n e net m there)
          (greatest_is d.period W e net.couplings most moment real b some);
      calm = λ none m. (let s = share_at d W n e net m there in let h = bound m in omega (arith, ints, s, h, none));
    }

module _ (d : Parts) (W : Assignment) (n : ℕ) (net : Net) (e : Edge) (most moment : ℤ) (there : slice_get d.nets n ≡ Some net) (top : IsTop d W n net e most moment) where
  pub some_peak : (v : NetId) (p : Peak) (before after : List Peak) → pos 1 ≤ℤ most → v.0 ≡ n → p.victim ≡ v → p.edge ≡ e → p.sum ≡ most → p.moment ≡ moment
      → pos p.ppm ≡ int_div_euclid (pos 1000000 *ℤ most) (net.load +ℤ coupling_sum net.couplings) → after ≡ before ++ p ∷ [] → EdgePeaksAt d W n e before after
  some_peak v p before after some number victim edge sum at ppm appended =
      let G : ℤ → Type 0 = λ s. IsGreatest d.period (share d W n e) s p.moment in
      let H : ℤ → Type 0 = λ t. IsGreatest d.period (share d W n e) most t in
      let S : ℤ → Type 0 = λ s. pos 1 ≤ℤ s in
      let peak : IsPeak d W n net e p = record {
        victim = ap (λ x. x.0) victim ∙ number;
        edge = edge;
        some = subst S (sym sum) some;
        greatest = subst G (sym sum) (subst H (sym at) (top.greatest some));
        size = ppm ∙ ap (λ s. int_div_euclid (pos 1000000 *ℤ s) (net.load +ℤ coupling_sum net.couplings)) (sym sum);
      } in
      held (λ x. (own : List Peak) × EdgePeaks d W n x e own × (after ≡ before ++ own)) (slice_get d.nets n) net there (p ∷ [], peak, appended)

  pub no_peak : (list : List Peak) → most ≤ℤ pos 0 → EdgePeaksAt d W n e list list
  no_peak list none =
      held (λ x. (own : List Peak) × EdgePeaks d W n x e own × (list ≡ list ++ own)) (slice_get d.nets n) net there ([], top.calm none, sym (append-nil list))
