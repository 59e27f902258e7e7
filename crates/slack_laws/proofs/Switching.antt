-- What switches at one moment in a list of transitions is no more than the peak in windows that hold the list.
use Rattle.std.proofs.Common.{◌≡◌, ℕ, zero, suc, ◌+◌, inl, inr, sym, subst, Bool, true, false, List, [], ◌∷◌, ◌++◌, ℤ, pos, ◌+ℤ◌, ◌-ℤ◌, ◌≤ℤ◌, arith}
use Rattle.std.specs.Prelude.{IsTrue, if◌then◌else◌, Option, Some, None, IfSome}
use Rattle.std.specs.List.{All, Any, slice_get}
use Rattle.std.proofs.lemmas.Int.{ints}
use Rattle.std.proofs.lemmas.Option.{none-some, same_Some}
use Rattle.std.proofs.lemmas.List.Elements.{All-head, All-tail, All-contains}
use Rattle.xt_model.specs.declared.edge.Edge.{Edge}
use Rattle.xt_model.specs.declared.edge.Edge.TheVariants.{Rise, Fall}
use Rattle.xt_model.specs.declared.quad.Pair.{Pair}
use Rattle.xt_model.specs.declared.net.Coupling.{Coupling}
use Rattle.xt_model.specs.declared.net.Net.{Net}
use Rattle.xt_model.specs.Quads.{is_live}
use Rattle.xt_model.specs.Parts.{Parts}
use Rattle.xt_model.specs.Sound.{IsSound}
use Rattle.xt_model.specs.Levels.{AreLevels}
use Rattle.xt_model.specs.Assign.{Assignment, assigned}
use Rattle.xt_meaning.specs.Overlap.{active_from, active_to, ranges_meet}
use Rattle.xt_meaning.specs.Fixpoint.{IsGreatestFixpoint}
use Rattle.xt_meaning.specs.Envelope.{IsEnvelope}
use Rattle.xt_meaning.proofs.Order.{true_both, half_up_mono}
use Rattle.xt_meaning.proofs.Meeting.{meet_decides}
use Rattle.xt_meaning.proofs.Growth.{IsWired, AreWired, HasNaturalCap, wired}
use Rattle.run_laws.specs.Transitions.{Transition, starts, ends, AreConsistent}
use Rattle.run_laws.specs.Laws.{LiesInLive, LieWithin}
use Rattle.run_laws.proofs.Hulls.{within_greatest}
use Rattle.glitch_noise.specs.declared.peak.Peak.{Peak}
use Rattle.glitch_noise.specs.Shares.{is_under_way, share_of, couplings_of, share}
use Rattle.glitch_noise.specs.Peaks.{EdgePeaks, ArePeaks}
use Rattle.slack_laws.specs.Noise.{IsUnderWayAt, Switch, IsAtLeast}
use Rattle.slack_laws.proofs.Lists.{Has, has_left, has_right, any_from_has}
use Rattle.slack_laws.proofs.Wires.{meet_around}

-- ---- one moment
-- windows that hold a transition can have it under way when it is
under_way : (d : Parts) (W : Assignment) (xs : List Transition) (n : ℕ) (e : Edge) (moment : ℤ) → AreWired d → LieWithin W xs → IsUnderWayAt d xs n e moment → IsTrue (is_under_way d.period (W n e) moment)
under_way d W xs n e moment ws lie h =
    let x = h.x in
    let q = W x.net x.edge in
    let P : ℕ → Type 0 = λ i. IsTrue (is_under_way d.period (W i x.edge) moment) in
    let Q : Edge → Type 0 = λ f. IsTrue (is_under_way d.period (W n f) moment) in
    let of_x : LiesInLive q x = All-contains (λ z. LiesInLive (W z.net z.edge) z) xs x lie h.listed in
    let wide = half_up_mono x.slew q.shi of_x.bounds.shi in
    let meet = meet_around d.period (starts x) (ends x) moment moment (active_from q) (active_to q) moment moment (omega (arith, ints, wide, of_x.bounds.tlo)) (omega (arith, ints, wide, of_x.bounds.thi))
    (omega (arith, ints)) (omega (arith, ints)) h.meets in
    subst Q h.at_edge (subst P h.at_net (true_both (is_live q) (ranges_meet d.period (active_from q) (active_to q) moment moment) of_x.live
    ((meet_decides d.period (active_from q) (active_to q) moment moment ws.period).1 meet)))

part_natural : (t : Bool) (cap cap_below rest : ℤ) → pos 0 ≤ℤ cap → cap_below ≤ℤ rest → cap_below ≤ℤ ((if t then cap else pos 0) +ℤ rest)
part_natural true cap cap_below rest h k = omega (arith, ints, h, k)
part_natural false cap cap_below rest h k = omega (arith, ints, k)

part_counts : (t : Bool) (cap all rest : ℤ) → IsTrue t → (all -ℤ cap) ≤ℤ rest → all ≤ℤ ((if t then cap else pos 0) +ℤ rest)
part_counts true cap all rest h k = omega (arith, ints, k)
part_counts false cap all rest h k = absurd (cc)

switch_below : (d : Parts) (W : Assignment) (xs : List Transition) (e : Edge) (moment : ℤ) (ks : List Coupling) (cap : ℤ) → AreWired d → LieWithin W xs → All HasNaturalCap ks → Switch d xs e moment ks cap
    → cap ≤ℤ share_of d.period W e moment ks
switch_below d W xs e moment [] cap ws lie natural h = omega (arith, ints, h)
switch_below d W xs e moment (k ∷ more) cap ws lie natural (inl h) =
    part_natural (is_under_way d.period (W k.to.0 e) moment) k.cap cap (share_of d.period W e moment more) (All-head HasNaturalCap k more natural)
    (switch_below d W xs e moment more cap ws lie (All-tail HasNaturalCap k more natural) h)
switch_below d W xs e moment (k ∷ more) cap ws lie natural (inr h) =
    part_counts (is_under_way d.period (W k.to.0 e) moment) k.cap cap (share_of d.period W e moment more) (under_way d W xs k.to.0 e moment ws lie h.0)
    (switch_below d W xs e moment more (cap -ℤ k.cap) ws lie (All-tail HasNaturalCap k more natural) h.1)

own_caps : (o : Option Net) (net : Net) → o ≡ Some net → IfSome o IsWired → All HasNaturalCap net.couplings
own_caps None net there own = absurd (none-some net there)
own_caps (Some m) net there own = let P : Net → Type 0 = λ i. All HasNaturalCap i.couplings in subst P (same_Some m net there) own.caps

share_above : (d : Parts) (W : Assignment) (xs : List Transition) (n : ℕ) (net : Net) (e : Edge) (moment cap : ℤ) → AreWired d → LieWithin W xs → slice_get d.nets n ≡ Some net → Switch d xs e moment net.couplings cap
    → cap ≤ℤ share d W n e moment
unfolding share
share_above d W xs n net e moment cap ws lie there h =
    let P : Option Net → Type 0 = λ o. cap ≤ℤ share_of d.period W e moment (couplings_of o) in
    subst P (sym there) (switch_below d W xs e moment net.couplings cap ws lie (own_caps (slice_get d.nets n) net there (ws.each n)) h)

-- ---- peaks
module _ (d : Parts) (W : Assignment) (n : ℕ) (net : Net) (e : Edge) (moment cap : ℤ) (some : pos 1 ≤ℤ cap) (below : cap ≤ℤ share d W n e moment) where
  edge_peak : (ps : List Peak) → EdgePeaks d W n net e ps → Has (IsAtLeast n e cap) ps
  edge_peak [] calm = let a = calm moment in absurd (omega (arith, ints, a, some, below))
  edge_peak (p ∷ []) h = let a = h.greatest.bound moment in inl (record { of_net = h.victim; of_edge = h.edge; sum = omega (arith, ints, a, below) })
  edge_peak (p ∷ q ∷ more) h = absurd h

both_edges : (d : Parts) (W : Assignment) (n : ℕ) (net : Net) (e : Edge) (moment cap : ℤ) (rises falls : List Peak) → pos 1 ≤ℤ cap → cap ≤ℤ share d W n e moment → EdgePeaks d W n net Rise rises
    → EdgePeaks d W n net Fall falls → Has (IsAtLeast n e cap) (rises ++ falls)
both_edges d W n net Rise moment cap rises falls some below r f = has_left (IsAtLeast n Rise cap) rises falls (edge_peak d W n net Rise moment cap some below rises r)
both_edges d W n net Fall moment cap rises falls some below r f = has_right (IsAtLeast n Fall cap) rises falls (edge_peak d W n net Fall moment cap some below falls f)

has_peak : (d : Parts) (W : Assignment) (from : ℕ) (nets : List Net) (j n : ℕ) (net : Net) (e : Edge) (moment cap : ℤ) (ps : List Peak) → slice_get nets j ≡ Some net → n ≡ from + j → pos 1 ≤ℤ cap
    → cap ≤ℤ share d W n e moment → ArePeaks d W from nets ps → Has (IsAtLeast n e cap) ps
has_peak d W from [] j n net e moment cap ps there place some below h = absurd (none-some net there)
has_peak d W from (m ∷ more) zero n net e moment cap ps there place some below h =
    let own = h.2 in
    let here : n ≡ from = omega (arith, place) in
    let P : List Peak → Type 0 = λ qs. Has (IsAtLeast n e cap) qs in
    let Q : ℕ → Type 0 = λ i. Has (IsAtLeast i e cap) (own.rises ++ own.falls) in
    let R : ℕ → Type 0 = λ i. cap ≤ℤ share d W i e moment in
    subst P (sym h.4) (has_left (IsAtLeast n e cap) h.0 h.1 (subst P (sym own.all)
    (subst Q (sym here) (both_edges d W from m e moment cap own.rises own.falls some (subst R here below) own.of_rises own.of_falls))))
has_peak d W from (m ∷ more) (suc j) n net e moment cap ps there place some below h =
    let P : List Peak → Type 0 = λ qs. Has (IsAtLeast n e cap) qs in
    subst P (sym h.4) (has_right (IsAtLeast n e cap) h.0 h.1 (has_peak d W (from + 1) more j n net e moment cap h.1 there (omega (arith, place)) some below h.3))

-- ---- the law
pub switching_has_peaks : (d : Parts) (levels : List ℕ) (top high : List Pair) (xs : List Transition) (n : ℕ) (net : Net) (e : Edge) (moment cap : ℤ) (ps : List Peak) → IsSound d → AreLevels d.nets levels → IsEnvelope d top
    → IsGreatestFixpoint d high → AreConsistent d xs → slice_get d.nets n ≡ Some net → Switch d xs e moment net.couplings cap → pos 1 ≤ℤ cap → ArePeaks d (assigned high) 0 d.nets ps → Any (IsAtLeast n e cap) ps
switching_has_peaks d levels top high xs n net e moment cap ps s l t g why there h some peaks =
    let below = share_above d (assigned high) xs n net e moment cap (wired d s) (within_greatest d levels top high xs s l t g why) there h in
    any_from_has (IsAtLeast n e cap) ps (has_peak d (assigned high) 0 d.nets n n net e moment cap ps there (omega arith) some below peaks)
