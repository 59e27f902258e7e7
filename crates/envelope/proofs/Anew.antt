-- The turns of the nets in the pass that renews an envelope: each net that had its turn has the windows that it has in
-- the pass from nothing.
use Rattle.std.proofs.Common.{◌≡◌, ◌≢◌, ℕ, zero, suc, ◌+◌, ◌<◌, ◌≤◌, ◌&&◌, Bool, true, false, inl, inr, refl, sym, ap, subst, ◌∙◌, List, [], ◌∷◌, length, set, get_or, arith}
use Rattle.std.specs.Prelude.{Option, Some, None, IfSome, slice_index}
use Rattle.std.specs.List.{All, slice_get, list_all}
use Rattle.std.proofs.lemmas.Bool.{cases_eq, cases_lt, cases_Bool}
use Rattle.std.proofs.lemmas.Option.{slice_get_past, slice_get_within, get_or_from_slice_get}
use Rattle.std.proofs.lemmas.List.{length-set, get_or-set_same, get_or-set_other}
use Rattle.std.proofs.lemmas.List.Sums.{AllPass-from_list_all}
use Rattle.xt_model.specs.declared.edge.Edge.{Edge}
use Rattle.xt_model.specs.declared.edge.Edge.TheVariants.{Rise, Fall}
use Rattle.xt_model.specs.declared.quad.Quad.{Quad}
use Rattle.xt_model.specs.declared.quad.Pair.{Pair}
use Rattle.xt_model.specs.declared.net.TimingArc.{TimingArc}
use Rattle.xt_model.specs.declared.net.Net.{Net}
use Rattle.xt_model.specs.Quads.{IsLive, IsPairInRange, quad_at}
use Rattle.xt_model.specs.Levels.{IsOrder}
use Rattle.xt_model.specs.Parts.{Parts}
use Rattle.xt_model.specs.Sound.{IsSound, IsSoundNet}
use Rattle.xt_model.specs.Assign.{assigned, quad_of_pair, words_of, quads_of}
use Rattle.xt_meaning.specs.Operator.{wire_range, widest_operator}
use Rattle.xt_meaning.specs.Overlap.{all_overlap}
use Rattle.xt_meaning.specs.Envelope.{net_tests, first_over}
use Rattle.xt_meaning.specs.Laws.{quiet_windows}
use Rattle.xt_meaning.proofs.Growth.{wired}
use Rattle.xt_meaning.proofs.Words.{quads_of_words}
use Rattle.xt_meaning.proofs.Widest.{IfSome_there, inputs_below}
use Rattle.xt_meaning.proofs.Existence.{same_inputs}
use Rattle.xt_meaning.proofs.Rounds.{slice_get-set_same, slice_get-set_other}
use Rattle.xt_meaning.proofs.Passes.{IsTurned, turned_more, all_turned}
use Rattle.miller_bits.proofs.Sums.{found}
use Rattle.net_eval.specs.Room.{FitsWire, FitsAtInput, ReadsFit}
use Rattle.net_eval.proofs.Steady.{has_sink}
use Rattle.envelope.specs.Firsts.{pair_tests}
use Rattle.envelope.specs.Renewal.{IsApart, IsEnvelopeBut}
use Rattle.envelope.proofs.Firsts.{none_over}
use Rattle.envelope.proofs.Agreement.{lower_turned}
use Rattle.envelope.proofs.Turns.{IsTestedPass, IsNext, net_there, tested_fits, widest_of_words, same_tests, pass_started, pass_turned}

-- the first i nets in order had their turn, and have the windows that they have in a pass from nothing; the flags say
-- of which nets the windows are the old ones, and of neither of the two that changed
pub record IsRenewal (d : Parts) (a b : ℕ) (old : List Pair) (order : List ℕ) (v : List Pair) (kept : List Bool) (i : ℕ) : Type 0 where
  pub fresh : List Pair
  pub tested : IsTestedPass d order fresh i
  pub count : length v ≡ length d.nets
  pub done : (n : ℕ) → IsTurned order i n → slice_get fresh n ≡ slice_get v n
  pub flags : length kept ≡ length d.nets
  pub unmoved : (n : ℕ) → get_or kept n true ≡ true → slice_get v n ≡ slice_get old n
  pub first : get_or kept a true ≡ false
  pub second : get_or kept b true ≡ false

-- ---- lists
same_lists : {X : Type 0} (xs ys : List X) → ((n : ℕ) → slice_get xs n ≡ slice_get ys n) → xs ≡ ys
same_lists [] [] h = refl
same_lists [] (y ∷ ys) h = let e = h 0 in absurd cc
same_lists (x ∷ xs) [] h = let e = h 0 in absurd cc
same_lists (x ∷ xs) (y ∷ ys) h = let e : x ≡ y = (let k : Some x ≡ Some y = h 0 in cc) in let r = same_lists xs ys (λ n. h (suc n)) in rw (e, r) refl

both_true : (s t : Bool) → (s && t) ≡ true → (s ≡ true) × (t ≡ true)
both_true true true h = (refl, refl)
both_true true false h = absurd cc
both_true false t h = absurd cc

true-false : (t : Bool) → t ≡ true → t ≡ false → ⊥
true-false t h k = absurd cc

same_window : (v w : List Pair) (m : ℕ) (f : Edge) → slice_get v m ≡ slice_get w m → assigned v m f ≡ assigned w m f
same_window v w m f e = ap (λ o. quad_of_pair o f) e

of_both : (P Q R : Net → Type 0) → ((net : Net) → P net → Q net → R net) → (o : Option Net) → IfSome o P → IfSome o Q → IfSome o R
of_both P Q R f None p q = tt
of_both P Q R f (Some net) p q = f net p q

of_one : (P R : Net → Type 0) → ((net : Net) → P net → R net) → (o : Option Net) → IfSome o P → IfSome o R
of_one P R f None p = tt
of_one P R f (Some net) p = f net p

-- ---- the next net
module _ (d : Parts) (a b : ℕ) (old : List Pair) (order : List ℕ) (v : List Pair) (kept : List Bool) (i : ℕ) (s : IsSound d) (o : IsOrder d.nets order) (h : i < length order)
    (r : IsRenewal d a b old order v kept i) where
  abbrev own : ℕ
  own = slice_index order i

  input_turned : (m : ℕ) → slice_index o.0 m < slice_index o.0 own → m < length d.nets → IsTurned order i m
  input_turned m below inside =
      let here : IsTurned order (i + 1) own = record { place = i; before = omega arith; there = refl } in
      elim (turned_more order i m (lower_turned d o.0 order s o.1 o.2 (i + 1) own m here below inside)) [
        | inl t ↦ t
        | inr same ↦
            let P : ℕ → Type 0 = λ k. slice_index o.0 k < slice_index o.0 own in
            let f : slice_index o.0 own < slice_index o.0 own = subst P same below in
            absurd (omega (arith, f))
      ]

  -- the inputs of the net had their turn
  inputs_turned : IfSome (slice_get d.nets own) (λ net. All (λ arc. IsTurned order i arc.from.0) net.arcs)
  inputs_turned =
      IfSome_there (λ net. All (λ arc. IsTurned order i arc.from.0) net.arcs) (slice_get d.nets own)
      (λ net there k x inside.
      let arc = get_or net.arcs k x in
      let below : slice_index o.0 arc.from.0 < slice_index o.0 own = inputs_below d.nets o.0 o.1 own net there k x inside in
      let sink = ((found (IsSoundNet d own) (slice_get d.nets own) net there (s.nets own)).arcs k x inside).sink in
      input_turned arc.from.0 below (has_sink d arc.from.0 arc.sink (slice_get d.nets arc.from.0) refl sink))

  inputs_fresh : IfSome (slice_get d.nets own) (λ net. All (λ arc. (f : Edge) → assigned v arc.from.0 f ≡ assigned r.fresh arc.from.0 f) net.arcs)
  inputs_fresh =
      of_one (λ net. All (λ arc. IsTurned order i arc.from.0) net.arcs) (λ net. All (λ arc. (f : Edge) → assigned v arc.from.0 f ≡ assigned r.fresh arc.from.0 f) net.arcs)
      (λ net turned k x inside f. let m = (get_or net.arcs k x).from.0 in sym (same_window r.fresh v m f (r.done m (turned k x inside)))) (slice_get d.nets own) inputs_turned

  pub renewed_fits : ReadsFit d (quads_of (words_of (assigned v))) own
  renewed_fits = record {
    inputs = of_both (λ net. All (λ arc. (f : Edge) → assigned v arc.from.0 f ≡ assigned r.fresh arc.from.0 f) net.arcs)
        (λ net. All (FitsAtInput d all_overlap (quads_of (words_of (assigned r.fresh)))) net.arcs) (λ net. All (FitsAtInput d all_overlap (quads_of (words_of (assigned v)))) net.arcs)
        (λ net same fit k x inside.
        let arc = get_or net.arcs k x in
        let P : Quad → Type 0 = λ q. IsLive q → FitsWire q (wire_range d.miller all_overlap arc.from.0 arc.input arc.sink (slice_get d.nets arc.from.0)) in
        subst P (quads_of_words (assigned r.fresh) arc.from.0 arc.input ∙ (sym (same k x inside arc.input) ∙ sym (quads_of_words (assigned v) arc.from.0 arc.input))) (fit k x inside))
        (slice_get d.nets own) inputs_fresh (tested_fits d order r.fresh i s r.tested own).inputs;
  }

  -- what is made of the windows at hand is what is made in the pass from nothing
  fresh_words : (e : Edge) → widest_operator d (quads_of (words_of (assigned v))) own e ≡ widest_operator d (quads_of (words_of (assigned r.fresh))) own e
  fresh_words e =
      widest_of_words d v own e s ∙ (same_inputs d (assigned v) (assigned r.fresh) own e (wired d s) inputs_fresh ∙ sym (widest_of_words d r.fresh own e s))

  pub made_next : (p : Pair) → IsNext d v own p → IsNext d r.fresh own p
  made_next p next = record { rise = next.rise ∙ fresh_words Rise; fall = next.fall ∙ fresh_words Fall; range = next.range }

  -- ---- a net that is passed over
  module _ (same : IsEnvelopeBut d a b old) (net : Net) (there : slice_get d.nets own ≡ Some net)
      (steady : (get_or kept own true && list_all (λ arc. get_or kept arc.from.0 true) net.arcs) ≡ true) where
    own_kept : get_or kept own true ≡ true
    own_kept = (both_true (get_or kept own true) (list_all (λ arc. get_or kept arc.from.0 true) net.arcs) steady).0

    inputs_kept : All (λ (arc : TimingArc). get_or kept arc.from.0 true ≡ true) net.arcs
    inputs_kept = AllPass-from_list_all (λ arc. get_or kept arc.from.0 true) net.arcs (both_true (get_or kept own true) (list_all (λ arc. get_or kept arc.from.0 true) net.arcs) steady).1

    other_than : (m c : ℕ) → get_or kept m true ≡ true → get_or kept c true ≡ false → m ≢ c
    other_than m c k f e = let P : ℕ → Type 0 = λ j. get_or kept j true ≡ true in true-false (get_or kept c true) (subst P e k) f

    apart : IsApart d a b own
    apart = record {
      first = other_than own a own_kept r.first;
      second = other_than own b own_kept r.second;
      inputs =
          let P : Option Net → Type 0 = λ x. IfSome x (λ n. All (λ arc. (arc.from.0 ≢ a) × (arc.from.0 ≢ b)) n.arcs) in
          let each : All (λ (arc : TimingArc). (arc.from.0 ≢ a) × (arc.from.0 ≢ b)) net.arcs =
          λ k x inside. let m = (get_or net.arcs k x).from.0 in (other_than m a (inputs_kept k x inside) r.first, other_than m b (inputs_kept k x inside) r.second) in
          subst P (sym there) each;
    }

    old_inputs : IfSome (slice_get d.nets own) (λ n. All (λ arc. (f : Edge) → assigned old arc.from.0 f ≡ assigned r.fresh arc.from.0 f) n.arcs)
    old_inputs =
        let P : Option Net → Type 0 = λ x. IfSome x (λ n. All (λ arc. (f : Edge) → assigned v arc.from.0 f ≡ assigned r.fresh arc.from.0 f) n.arcs) in
        let Q : Option Net → Type 0 = λ x. IfSome x (λ n. All (λ arc. (f : Edge) → assigned old arc.from.0 f ≡ assigned r.fresh arc.from.0 f) n.arcs) in
        let fresh : All (λ (arc : TimingArc). (f : Edge) → assigned v arc.from.0 f ≡ assigned r.fresh arc.from.0 f) net.arcs = subst P there inputs_fresh in
        let each : All (λ (arc : TimingArc). (f : Edge) → assigned old arc.from.0 f ≡ assigned r.fresh arc.from.0 f) net.arcs =
        λ k x inside f. let m = (get_or net.arcs k x).from.0 in sym (same_window v old m f (r.unmoved m (inputs_kept k x inside))) ∙ fresh k x inside f in
        subst Q (sym there) each

    old_made : (e : Edge) → assigned old own e ≡ widest_operator d (quads_of (words_of (assigned r.fresh))) own e
    old_made e =
        sym (same.fixed own e apart) ∙ (same_inputs d (assigned old) (assigned r.fresh) own e (wired d s) old_inputs ∙ sym (widest_of_words d r.fresh own e s))

    module _ (p : Pair) (at : slice_get v own ≡ Some p) where
      at_old : slice_get old own ≡ Some p
      at_old = sym (r.unmoved own own_kept) ∙ at

      old_quad : (e : Edge) → assigned old own e ≡ quad_at p e
      old_quad e = ap (λ x. quad_of_pair x e) at_old

      pub passed_next : IsNext d r.fresh own p
      passed_next = record {
        rise = sym (old_quad Rise) ∙ old_made Rise;
        fall = sym (old_quad Fall) ∙ old_made Fall;
        range = let P : Pair → Type 0 = IsPairInRange in subst P (get_or_from_slice_get old own p p at_old) (same.windows.in_range own p (slice_get_within old own p at_old));
      }

      pub passed_tests : None ≡ first_over (pair_tests d.miller own (slice_get d.nets own) p)
      passed_tests = none_over (net_tests d old own) (same.kept own apart) ∙ ap (λ ts. first_over ts) (sym (same_tests d.miller old own (slice_get d.nets own) p old_quad))

  -- ---- the turn
  module _ (p : Pair) (next : IsNext d r.fresh own p) (none : None ≡ first_over (pair_tests d.miller own (slice_get d.nets own) p)) (w : List Pair) (left : List Bool)
      (count : length w ≡ length d.nets) (at : slice_get w own ≡ Some p) (others : (m : ℕ) → m ≢ own → slice_get w m ≡ slice_get v m) (flags : length left ≡ length d.nets)
      (fewer : (m : ℕ) → get_or left m true ≡ true → get_or kept m true ≡ true) (old_or_not : get_or left own true ≡ true → slice_get w own ≡ slice_get old own) where
    own_inside : own < length r.fresh
    own_inside = let c = r.tested.pass.windows.count in let t = net_there d order i s o h in omega (arith, c, t)

    still : (c : ℕ) → get_or kept c true ≡ false → get_or left c true ≡ false
    still c f = elim (cases_Bool (get_or left c true)) [
      | inl t ↦ absurd (true-false (get_or kept c true) (fewer c t) f)
      | inr t ↦ t
    ]

    done_now : slice_get (set r.fresh own p) own ≡ slice_get w own
    done_now = slice_get-set_same r.fresh own p own_inside ∙ sym at

    done_after : (m : ℕ) → IsTurned order (i + 1) m → slice_get (set r.fresh own p) m ≡ slice_get w m
    done_after m t = elim (cases_eq m own) [
      | inl e ↦ let P : ℕ → Type 0 = λ k. slice_get (set r.fresh own p) k ≡ slice_get w k in subst P (sym e) done_now
      | inr other ↦ elim (turned_more order i m t) [
        | inl before ↦ slice_get-set_other r.fresh own m p other ∙ (r.done m before ∙ sym (others m other))
        | inr e ↦ absurd (other e)
      ]
    ]

    pub turned : IsRenewal d a b old order w left (i + 1)
    turned = record {
      fresh = set r.fresh own p;
      tested = pass_turned d order r.fresh (set r.fresh own p) i p s o h r.tested next none refl;
      count = count;
      done = done_after;
      flags = flags;
      unmoved = λ m f. elim (cases_eq m own) [
        | inl e ↦ let P : ℕ → Type 0 = λ k. slice_get w k ≡ slice_get old k in let Q : ℕ → Type 0 = λ k. get_or left k true ≡ true in subst P (sym e) (old_or_not (subst Q e f))
        | inr other ↦ others m other ∙ r.unmoved m (fewer m f)
      ];
      first = still a r.first;
      second = still b r.second;
    }

-- ---- the turns of the code
pair_there : (ps : List Pair) (n : ℕ) → n < length ps → (p : Pair) × (slice_get ps n ≡ Some p)
pair_there [] n h = absurd (omega (arith, h))
pair_there (p ∷ ps) zero h = (p, refl)
pair_there (p ∷ ps) (suc n) h = pair_there ps n (omega (arith, h))

module _ (d : Parts) (a b : ℕ) (old : List Pair) (order : List ℕ) (v : List Pair) (kept : List Bool) (i : ℕ) (s : IsSound d) (o : IsOrder d.nets order) (h : i < length order)
    (r : IsRenewal d a b old order v kept i) where
  pub own_within : slice_index order i < length v
  own_within = let c = r.count in let t = net_there d order i s o h in omega (arith, c, t)

  pub own_flagged : slice_index order i < length kept
  own_flagged = let c = r.flags in let t = net_there d order i s o h in omega (arith, c, t)

  -- a net that is passed over
  pub passed_over : IsEnvelopeBut d a b old → (net : Net) → slice_get d.nets (slice_index order i) ≡ Some net → (flags : List Bool) → flags ≡ kept → (arcs : List TimingArc) → arcs ≡ net.arcs
      → true ≡ (get_or flags (slice_index order i) true && list_all (λ arc. get_or flags arc.from.0 true) arcs) → IsRenewal d a b old order v kept (i + 1)
  passed_over same net there flags is_kept arcs is_arcs steady =
      let now : (get_or kept (slice_index order i) true && list_all (λ (arc : TimingArc). get_or kept arc.from.0 true) net.arcs) ≡ true = sym (rw (is_kept, is_arcs) at steady) in
      let x = pair_there v (slice_index order i) own_within in
      let next = passed_next d a b old order v kept i s o h r same net there now x.0 x.1 in
      let tests = passed_tests d a b old order v kept i s o h r same net there now x.0 x.1 in
      turned d a b old order v kept i s o h r x.0 next tests v kept r.count x.1 (λ m other. refl) r.flags (λ m k. k) (λ k. r.unmoved (slice_index order i) k)

  module _ (p : Pair) (next : IsNext d v (slice_index order i) p) (none : None ≡ first_over (pair_tests d.miller (slice_index order i) (slice_get d.nets (slice_index order i)) p)) where
    -- one whose windows are as they were
    pub made_again : (q : Pair) → slice_get v (slice_index order i) ≡ Some q → p ≡ q → IsRenewal d a b old order v kept (i + 1)
    made_again q at same =
        turned d a b old order v kept i s o h r p (made_next d a b old order v kept i s o h r p next) none v kept r.count (at ∙ ap Some (sym same)) (λ m other. refl) r.flags (λ m k. k)
        (λ k. r.unmoved (slice_index order i) k)

    -- and one with other windows
    pub made_other : (w : List Pair) (left : List Bool) → w ≡ set v (slice_index order i) p → left ≡ set kept (slice_index order i) false → IsRenewal d a b old order w left (i + 1)
    made_other w left is_w is_left =
        let n = slice_index order i in
        let P : List Pair → Type 0 = λ x. IsRenewal d a b old order x left (i + 1) in
        let Q : List Bool → Type 0 = λ x. IsRenewal d a b old order (set v n p) x (i + 1) in
        let c = r.count in
        let f = r.flags in
        let count : length (set v n p) ≡ length d.nets = (let e = length-set v n p in omega (arith, e, c)) in
        let flags : length (set kept n false) ≡ length d.nets = (let e = length-set kept n false in omega (arith, e, f)) in
        subst P (sym is_w) (subst Q (sym is_left)
        (turned d a b old order v kept i s o h r p (made_next d a b old order v kept i s o h r p next) none (set v n p) (set kept n false) count (slice_get-set_same v n p own_within)
        (λ m other. slice_get-set_other v n m p other) flags fewer (λ k. absurd (true-false (get_or (set kept n false) n true) k (get_or-set_same kept n false true own_flagged)))))
      where
        fewer : (m : ℕ) → get_or (set kept (slice_index order i) false) m true ≡ true → get_or kept m true ≡ true
        fewer m k = elim (cases_eq m (slice_index order i)) [
          | inl e ↦
              let P : ℕ → Type 0 = λ j. get_or (set kept (slice_index order i) false) j true ≡ true in
              absurd (true-false (get_or (set kept (slice_index order i) false) (slice_index order i) true) (subst P e k) (get_or-set_same kept (slice_index order i) false true own_flagged))
          | inr other ↦ sym (get_or-set_other kept (slice_index order i) m false true other) ∙ k
        ]

-- ---- the start and the end
pub renewal_starts : (d : Parts) (a b : ℕ) (old : List Pair) (order : List ℕ) (kept : List Bool) → IsSound d → IsOrder d.nets order → IsEnvelopeBut d a b old → length kept ≡ length d.nets
    → get_or kept a true ≡ false → get_or kept b true ≡ false → IsRenewal d a b old order old kept 0
renewal_starts d a b old order kept s o same flags first second = record {
  fresh = quiet_windows d;
  tested = pass_started d order (quiet_windows d) s o refl;
  count = same.windows.count;
  done = λ n t. let f = t.before in absurd (omega (arith, f));
  flags = flags;
  unmoved = λ n k. refl;
  first = first;
  second = second;
}

pub renewal_ends : (d : Parts) (a b : ℕ) (old : List Pair) (order : List ℕ) (v : List Pair) (kept : List Bool) (i : ℕ) → IsOrder d.nets order → length order ≤ i → i ≤ length order
    → IsRenewal d a b old order v kept i → IsTestedPass d order v i
renewal_ends d a b old order v kept i o past most r =
    let P : List Pair → Type 0 = λ w. IsTestedPass d order w i in
    subst P (same_lists r.fresh v same) r.tested
  where
    at_end : i ≡ length order
    at_end = omega (arith, past, most)

    same : (n : ℕ) → slice_get r.fresh n ≡ slice_get v n
    same n = elim (cases_lt n (length d.nets)) [
      | inl inside ↦ let P : ℕ → Type 0 = λ j. IsTurned order j n in r.done n (subst P (sym at_end) (all_turned d.nets o.0 order o.2 n inside))
      | inr beyond ↦
          let c = r.tested.pass.windows.count in
          let e = r.count in
          let x : length r.fresh ≤ n = omega (arith, c, beyond) in
          let y : length v ≤ n = omega (arith, e, beyond) in
          slice_get_past r.fresh n x ∙ sym (slice_get_past v n y)
    ]
