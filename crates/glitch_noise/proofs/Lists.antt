-- Lists of peaks: net by net, and that there is one.
use Rattle.std.proofs.Common.{◌≡◌, ℕ, zero, suc, get_or, ◌+◌, ◌<◌, ◌≤◌, refl, sym, ap, subst, ◌∙◌, List, [], ◌∷◌, ◌++◌, length, drop, append_assoc, append-nil, pos, ◌+ℤ◌, ◌*ℤ◌, ◌≤ℤ◌, arith}
use Rattle.std.specs.Prelude.{Some}
use Rattle.std.specs.Int.{int_div_euclid}
use Rattle.std.specs.List.{All, slice_get}
use Rattle.std.proofs.lemmas.Int.{ints}
use Rattle.std.proofs.lemmas.List.{drop_more, drop_all}
use Rattle.std.proofs.lemmas.List.Elements.{All-nil, All-cons, All-append}
use Rattle.std.proofs.lemmas.Option.{slice_get_within, get_or_from_slice_get}
use Rattle.xt_model.specs.declared.edge.Edge.{Edge}
use Rattle.xt_model.specs.declared.edge.Edge.TheVariants.{Rise, Fall}
use Rattle.xt_model.specs.declared.net.NetId.{NetId}
use Rattle.xt_model.specs.declared.net.Net.{Net}
use Rattle.xt_model.specs.Parts.{Parts}
use Rattle.xt_model.specs.Sound.{coupling_sum}
use Rattle.xt_model.specs.Assign.{Assignment}
use Rattle.xt_meaning.proofs.Order.{least_antisym}
use Rattle.miller_bits.proofs.Sums.{found}
use Rattle.glitch_noise.specs.declared.peak.Peak.{Peak}
use Rattle.glitch_noise.specs.Shares.{share}
use Rattle.glitch_noise.specs.Peaks.{IsCalm, IsPeak, EdgePeaks, EdgePeaksAt, NetPeaks, ArePeaks}

-- an element within a list is there, and is the first of what is left from it on
some_within : {X : Type 0} (xs : List X) (i : ℕ) → i < length xs → (x : X) × (slice_get xs i ≡ Some x)
some_within [] i h = absurd (omega arith)
some_within (x ∷ xs) zero h = (x, refl)
some_within (x ∷ xs) (suc i) h = some_within xs i (omega arith)

drop_at : {X : Type 0} (xs : List X) (i : ℕ) (x : X) → slice_get xs i ≡ Some x → drop i xs ≡ x ∷ drop (i + 1) xs
drop_at xs i x h =
    let is : get_or xs i x ≡ x = get_or_from_slice_get xs i x x h in
    drop_more xs i x (slice_get_within xs i x h) ∙ ap (λ y. y ∷ drop (i + 1) xs) is

module _ (d : Parts) (W : Assignment) where
  -- these are the peaks of the nets below number i: with those of the rest they are all
  abbrev pub AreFirst : ℕ → List Peak → Type 0
  AreFirst i ps = (others : List Peak) → ArePeaks d W i (drop i d.nets) others → ArePeaks d W 0 d.nets (ps ++ others)

  net_turn : (i : ℕ) (net : Net) (o p q : List Peak) → i < length d.nets → drop i d.nets ≡ net ∷ drop (i + 1) d.nets
      → ((own : List Peak) × EdgePeaks d W i net Rise own × (p ≡ o ++ own)) → ((own : List Peak) × EdgePeaks d W i net Fall own × (q ≡ p ++ own)) → AreFirst i o → AreFirst (i + 1) q
  net_turn i net o p q within is rise fall h others rest =
      let own = rise.0 ++ fall.0 in
      let np : NetPeaks d W i net own = record { rises = rise.0; falls = fall.0; of_rises = rise.1; of_falls = fall.1; all = refl } in
      let P : List Net → Type 0 = λ nets. ArePeaks d W i nets (own ++ others) in
      let Q : List Peak → Type 0 = λ ps. ArePeaks d W 0 d.nets ps in
      let all = h (own ++ others) (subst P (sym is) (own, others, np, rest, refl)) in
      let s : o ++ (own ++ others) ≡ q ++ others = rw (fall.2, rise.2) (simp append_assoc) in
      subst Q s all

  pub nets_turn : (i : ℕ) (o p q : List Peak) → i < length d.nets → EdgePeaksAt d W i Rise o p → EdgePeaksAt d W i Fall p q → AreFirst i o → AreFirst (i + 1) q
  nets_turn i o p q within rise fall h =
      let x = some_within d.nets i within in
      let is : drop i d.nets ≡ x.0 ∷ drop (i + 1) d.nets = drop_at d.nets i x.0 x.1 in
      net_turn i x.0 o p q within is
      (found (λ net. (own : List Peak) × EdgePeaks d W i net Rise own × (p ≡ o ++ own)) (slice_get d.nets i) x.0 x.1 rise)
      (found (λ net. (own : List Peak) × EdgePeaks d W i net Fall own × (q ≡ p ++ own)) (slice_get d.nets i) x.0 x.1 fall) h

  pub nets_none : AreFirst 0 []
  nets_none = λ others h. h

  pub nets_all : (i : ℕ) (ps : List Peak) → length d.nets ≤ i → AreFirst i ps → ArePeaks d W 0 d.nets ps
  nets_all i ps past h =
      let P : List Net → Type 0 = λ nets. ArePeaks d W i nets [] in
      let Q : List Peak → Type 0 = λ qs. ArePeaks d W 0 d.nets qs in
      subst Q (append-nil ps) (h [] (subst P (sym (drop_all i d.nets past)) refl))

-- ---- the victims are there
edge_there : (d : Parts) (W : Assignment) (n most : ℕ) (net : Net) (e : Edge) (ps : List Peak) → n < most → EdgePeaks d W n net e ps → All (λ p. p.victim.0 < most) ps
edge_there d W n most net e [] less h = All-nil (λ p. p.victim.0 < most)
edge_there d W n most net e (p ∷ []) less h = let v = h.victim in All-cons (λ p. p.victim.0 < most) p [] (omega (arith, v, less)) (All-nil (λ p. p.victim.0 < most))
edge_there d W n most net e (p ∷ q ∷ more) less h = absurd h

pub all_there : (d : Parts) (W : Assignment) (n most : ℕ) (nets : List Net) (ps : List Peak) → n + length nets ≤ most → ArePeaks d W n nets ps → All (λ p. p.victim.0 < most) ps
all_there d W n most [] ps few h = subst (All (λ p. p.victim.0 < most)) (sym h) (All-nil (λ p. p.victim.0 < most))
all_there d W n most (net ∷ more) ps few h =
    let here = h.2 in
    let less : n < most = omega (arith, few) in
    let own : All (λ p. p.victim.0 < most) h.0 = subst (All (λ p. p.victim.0 < most)) (sym here.all)
    (All-append (λ p. p.victim.0 < most) here.rises here.falls (edge_there d W n most net Rise here.rises less here.of_rises) (edge_there d W n most net Fall here.falls less here.of_falls)) in
    let others = all_there d W (n + 1) most more h.1 (omega (arith, few)) h.3 in
    subst (All (λ p. p.victim.0 < most)) (sym h.4) (All-append (λ p. p.victim.0 < most) h.0 h.1 own others)

-- ---- one list
same_peak : (p q : Peak) → p.victim.0 ≡ q.victim.0 → p.edge ≡ q.edge → p.sum ≡ q.sum → p.moment ≡ q.moment → p.ppm ≡ q.ppm → p ≡ q
same_peak p q a b c e f =
    let v : ◌≡◌ {A = NetId} (record { 0 = p.victim.0 }) (record { 0 = q.victim.0 }) = rw a refl in
    let s : ◌≡◌ {A = Peak} (record { victim = p.victim; edge = p.edge; sum = p.sum; moment = p.moment; ppm = p.ppm }) (record { victim = q.victim; edge = q.edge; sum = q.sum; moment = q.moment; ppm = q.ppm }) = rw (v, b, c, e, f) refl in
    s

one_peak : (d : Parts) (W : Assignment) (n : ℕ) (net : Net) (e : Edge) (p q : Peak) → IsPeak d W n net e p → IsPeak d W n net e q → p ≡ q
one_peak d W n net e p q h k =
    let g = h.greatest in
    let l = k.greatest in
    let up : p.sum ≤ℤ q.sum = let a = l.bound p.moment in let b = g.reached in omega (arith, ints, a, b) in
    let down : q.sum ≤ℤ p.sum = let a = g.bound q.moment in let b = l.reached in omega (arith, ints, a, b) in
    let sum : p.sum ≡ q.sum = least_antisym p.sum q.sum up down in
    let early : p.moment ≤ℤ q.moment = g.first q.moment l.counts (l.reached ∙ sym sum) in
    let late : q.moment ≤ℤ p.moment = l.first p.moment g.counts (g.reached ∙ sum) in
    let size : pos p.ppm ≡ pos q.ppm = h.size ∙ (ap (λ s. int_div_euclid (pos 1000000 *ℤ s) (net.load +ℤ coupling_sum net.couplings)) sum ∙ sym k.size) in
    same_peak p q (h.victim ∙ sym k.victim) (h.edge ∙ sym k.edge) sum (least_antisym p.moment q.moment early late) (omega (arith, ints, size))

not_both : (d : Parts) (W : Assignment) (n : ℕ) (net : Net) (e : Edge) (p : Peak) → IsPeak d W n net e p → IsCalm (share d W n e) → ⊥
not_both d W n net e p h calm = let a = calm p.moment in let b = h.greatest.reached in let c = h.some in absurd (omega (arith, ints, a, b, c))

one_of_edge : (d : Parts) (W : Assignment) (n : ℕ) (net : Net) (e : Edge) (ps qs : List Peak) → EdgePeaks d W n net e ps → EdgePeaks d W n net e qs → ps ≡ qs
one_of_edge d W n net e [] [] h k = refl
one_of_edge d W n net e [] (q ∷ []) h k = absurd (not_both d W n net e q k h)
one_of_edge d W n net e (p ∷ []) [] h k = absurd (not_both d W n net e p h k)
one_of_edge d W n net e (p ∷ []) (q ∷ []) h k = ap (λ x. x ∷ []) (one_peak d W n net e p q h k)
one_of_edge d W n net e [] (q ∷ r ∷ more) h k = absurd k
one_of_edge d W n net e (p ∷ []) (q ∷ r ∷ more) h k = absurd k
one_of_edge d W n net e (p ∷ r ∷ more) qs h k = absurd h

one_of_net : (d : Parts) (W : Assignment) (n : ℕ) (net : Net) (ps qs : List Peak) → NetPeaks d W n net ps → NetPeaks d W n net qs → ps ≡ qs
one_of_net d W n net ps qs h k =
    let a = one_of_edge d W n net Rise h.rises k.rises h.of_rises k.of_rises in
    let b = one_of_edge d W n net Fall h.falls k.falls h.of_falls k.of_falls in
    h.all ∙ (rw (a, b) refl ∙ sym k.all)

pub one_list : (d : Parts) (W : Assignment) (n : ℕ) (nets : List Net) (ps qs : List Peak) → ArePeaks d W n nets ps → ArePeaks d W n nets qs → ps ≡ qs
one_list d W n [] ps qs h k = h ∙ sym k
one_list d W n (net ∷ more) ps qs h k =
    let a = one_of_net d W n net h.0 k.0 h.2 k.2 in
    let b = one_list d W (n + 1) more h.1 k.1 h.3 k.3 in
    h.4 ∙ (rw (a, b) refl ∙ sym k.4)
