-- A net that moves leaves every net settled that the marks say is settled.
use Rattle.std.proofs.Common.{◌≡◌, ℕ, zero, suc, ◌+◌, ◌*◌, ◌/◌, ◌%◌, ◌<◌, ◌≤◌, ◌⊎◌, inl, inr, refl, sym, ap, subst, ◌∙◌, Bool, true, false, List, [], ◌∷◌, length, set, get_or, replicate, ℤ, ◌-ℤ◌, neg_ℤ, int_le, arith}
use Rattle.std.specs.Prelude.{◌&&◌, slice_index, Option, Some, None, IfSome, IsTrue, IsFalse}
use Rattle.std.specs.Int.{int_div_euclid}
use Rattle.std.specs.List.{All, Contains, slice_get}
use Rattle.std.proofs.lemmas.Bool.{cases_lt, cases_eq}
use Rattle.std.proofs.lemmas.Int.{ints}
use Rattle.std.proofs.lemmas.List.{get_or_default, get_or_past, get_or-set_same, get_or-set_other, length-replicate, length-set, same_lists}
use Rattle.std.proofs.lemmas.List.Elements.{All-set}
use Rattle.xt_model.specs.declared.direction.Direction.{Direction}
use Rattle.xt_model.specs.declared.direction.Direction.TheVariants.{Widen, Narrow}
use Rattle.xt_model.specs.declared.edge.Edge.{Edge}
use Rattle.xt_model.specs.declared.edge.Edge.TheVariants.{Rise, Fall}
use Rattle.xt_model.specs.declared.net.Coupling.{Coupling}
use Rattle.xt_model.specs.declared.net.Net.{Net}
use Rattle.xt_model.specs.declared.net.NetId.{NetId}
use Rattle.xt_model.specs.declared.quad.Quad.{Quad}
use Rattle.xt_model.specs.declared.quad.Pair.{Pair}
use Rattle.xt_model.specs.Quads.{IsPairInRange, IsWithin, is_live, quad_at}
use Rattle.xt_model.specs.Parts.{Parts}
use Rattle.xt_model.specs.Sound.{IsSound, IsSoundNet, IsSoundCoupling}
use Rattle.xt_model.specs.Assign.{Assignment, assigned, edge_of, side_of, word_number, words_of, quads_of}
use Rattle.xt_meaning.specs.Operator.{operator}
use Rattle.xt_meaning.specs.Overlap.{IsRealPeriod, active_from, active_to, overlaps, ranges_meet}
use Rattle.xt_meaning.specs.Barrier.{IsBoundNoFurther, IsNoFurther}
use Rattle.xt_meaning.specs.Fixpoint.{IsWindows}
use Rattle.xt_meaning.specs.Reads.{HoldsOfReads}
use Rattle.xt_meaning.specs.Words.{AreNoFurther, bound_in, bounds_in, further, number_at, number_for, numbers_of, onward, quiet_number}
use Rattle.xt_meaning.proofs.Words.{quads_of_words, word_net}
use Rattle.xt_meaning.proofs.Numbers.{bound_there, numbers_count, numbers_each, numbers_order, windows_by_words, words_of_quads}
use Rattle.xt_meaning.proofs.Meeting.{overlaps_mono}
use Rattle.xt_meaning.proofs.Order.{same_quad, within_refl}
use Rattle.xt_meaning.proofs.Extremes.{same_pair}
use Rattle.miller_bits.specs.Views.{HasNet}
use Rattle.net_eval.specs.ReadLists.{ids, reads_of}
use Rattle.net_eval.specs.Room.{ReadsWithinEnvelope}
use Rattle.net_eval.proofs.Steady.{has_sink}
use Rattle.chaos_core.specs.Tasks.{bound_at, list_of}
use Rattle.chaos_core.specs.Alike.{AreDecidedAlike, HaveSameAnswers, IsFedAlike}
use Rattle.chaos_core.specs.declared.setting.Setting.{Setting}
use Rattle.chaos_core.specs.Boards.{nets_of}
use Rattle.chaos_core.specs.Memories.{AreKept, Memory}
use Rattle.chaos_core.specs.OnlyWorker.{made_of, published}
use Rattle.chaos_core.specs.Passes.{HoldPair}
use Rattle.chaos_core.specs.TurnMarks.{AreListed, AreMarks, AreMarksOf, AreTold, HaveTold, IsHeld, IsMetAlike, IsSettledNet, IsUnseen, Marks}
use Rattle.chaos_core.proofs.Deciding.{same_where_decided}
use Rattle.chaos_core.proofs.Loads.{bound_onward}
use Rattle.chaos_core.proofs.OnlyWorker.{view_made, view_room, view_words}
use Rattle.chaos_core.proofs.PassLaws.{published_else}
use Rattle.chaos_core.proofs.Sight.{number_else, number_here}
use Rattle.chaos_core.proofs.Stages.{bound_in_range}
use Rattle.chaos_core.proofs.Starting.{words_here}

-- ---- whether two windows overlap does not depend on their order
le_swapped : (x y : ℤ) → int_le (neg_ℤ x) y ≡ int_le (neg_ℤ y) x
le_swapped x y = grind (arith, ints)

and_swapped : (a b : Bool) → (a && b) ≡ (b && a)
and_swapped true true = refl
and_swapped true false = refl
and_swapped false true = refl
and_swapped false false = refl

both_swapped : (a b c d : Bool) → c ≡ d → (a && (b && c)) ≡ (b && (a && d))
both_swapped true true c d e = e
both_swapped true false c d e = refl
both_swapped false true c d e = refl
both_swapped false false c d e = refl

meet_swapped : (period : Option ℤ) (a0 a1 b0 b1 : ℤ) → ranges_meet period a0 a1 b0 b1 ≡ ranges_meet period b0 b1 a0 a1
meet_swapped None a0 a1 b0 b1 = and_swapped (int_le a0 b1) (int_le b0 a1)
meet_swapped (Some period) a0 a1 b0 b1 = le_swapped (int_div_euclid (b1 -ℤ a0) period) (int_div_euclid (a1 -ℤ b0) period)

pub overlaps_swapped : (period : Option ℤ) (q r : Quad) → overlaps period q r ≡ overlaps period r q
overlaps_swapped period q r = both_swapped (is_live q) (is_live r) _ _ (meet_swapped period (active_from q) (active_to q) (active_from r) (active_to r))

-- ---- nets of a design
abbrev is_there : Option Net → Type 0
is_there None = ⊥
is_there (Some net) = Unit {0}

some_there : (xs : List Net) (n : ℕ) → n < length xs → slice_get xs n ≡ None → ⊥
some_there [] n h e = omega (arith, h)
some_there (x ∷ xs) zero h e = subst is_there e tt
some_there (x ∷ xs) (suc n) h e = some_there xs n (omega (arith, h)) e

couplings_at : (d : Parts) → IsSound d → (x : ℕ) → IfSome (slice_get d.nets x) (λ net. All (IsSoundCoupling d x) net.couplings)
couplings_at d sound x = sound_ones (slice_get d.nets x) (sound.nets x) where
  sound_ones : (o : Option Net) → IfSome o (IsSoundNet d x) → IfSome o (λ net. All (IsSoundCoupling d x) net.couplings)
  sound_ones None h = tt
  sound_ones (Some net) h = h.couplings

-- ---- the windows after a net moved
module _ (words later : List ℕ) (n : ℕ) (pair : Pair) (same : (w : ℕ) → (w / 8 ≡ n → ⊥) → number_at later w ≡ number_at words w) (held : HoldPair later n pair)
    (bounds : (i : ℕ) → i < 8 → bound_in (number_for (bound_at pair i)) ≡ bound_at pair i) where
  abbrev W : Assignment
  W = quads_of (bounds_in words)

  abbrev V : Assignment
  V = quads_of (bounds_in later)

  window_else : (m : ℕ) (f : Edge) → (m ≡ n → ⊥) → W m f ≡ V m f
  window_else m f other =
      let at : (side : ℕ) → side < 4 → bounds_in words (word_number m f side) ≡ bounds_in later (word_number m f side) =
      λ side lt. ap bound_in (sym (same (word_number m f side) (λ e. other (sym (word_net m f side lt) ∙ e)))) in
      same_quad _ _ (at 0 (omega arith)) (at 1 (omega arith)) (at 2 (omega arith)) (at 3 (omega arith))

  bound_later : (i : ℕ) → i < 8 → bounds_in later (8 * n + i) ≡ bound_at pair i
  bound_later i h = ap bound_in (held i h) ∙ bounds i h

  window_there : (f : Edge) → V n f ≡ quad_at pair f
  window_there Rise = same_quad _ _ (at 0 (omega arith)) (at 1 (omega arith)) (at 2 (omega arith)) (at 3 (omega arith)) where
    at : (i : ℕ) → i < 4 → bounds_in later (8 * n + 4 * 0 + i) ≡ bound_at pair i
    at i h = let e : 8 * n + i ≡ 8 * n + 4 * 0 + i = omega arith in subst (λ w. bounds_in later w ≡ bound_at pair i) e (bound_later i (omega (arith, h)))
  window_there Fall = same_quad _ _ (at 0 (omega arith)) (at 1 (omega arith)) (at 2 (omega arith)) (at 3 (omega arith)) where
    at : (i : ℕ) → i < 4 → bounds_in later (8 * n + 4 * 1 + i) ≡ bound_at pair (4 + i)
    at i h = let e : 8 * n + (4 + i) ≡ 8 * n + 4 * 1 + i = omega arith in subst (λ w. bounds_in later w ≡ bound_at pair (4 + i)) e (bound_later (4 + i) (omega (arith, h)))

  -- ---- the marks after it
  module _ (d : Parts) (sound : IsSound d) (there : n < length d.nets) (m : Marks) (turn : ℕ) (told : List ℕ) (are : AreMarks d words m) (on : m.turn ≤ turn) (tells : HaveTold d W n pair turn m.answers told)
      (made : pair ≡ made_of d words n) (range : IsPairInRange pair) where
    abbrev after : Marks
    after = record { turn = turn; moved = set m.moved n turn; answers = told; seen = set m.seen n turn }

    seen_past : (y : ℕ) → slice_index after.seen y ≤ turn
    seen_past y = elim (cases_eq y n) [
      | inl e ↦
          let h = are.counts.seen in
          let here = get_or-set_same m.seen n turn 0 (omega (arith, h, there)) in
          let P : ℕ → Type 0 = λ i. slice_index after.seen i ≤ turn in
          subst P (sym e) (omega (arith, here))
      | inr ne ↦ let p = are.past y in let e = get_or-set_other m.seen n y turn 0 ne in omega (arith, p, on, e)
    ]

    moved_here : slice_index after.moved n ≡ turn
    moved_here = let h = are.counts.moved in get_or-set_same m.moved n turn 0 (omega (arith, h, there))

    -- the answers of a net at which none turned in this turn are the same
    alike_couplings : (x : ℕ) → (slice_index told x ≡ turn → ⊥) → (ks : List Coupling) → All (IsSoundCoupling d x) ks
        → (x ≡ n → All (λ k. IsMetAlike d.period W n pair k.to.0 ⊎ (slice_index told n ≡ turn)) ks)
        → All (λ k. k.to.0 ≡ n → IsMetAlike d.period W n pair x ⊎ (slice_index told x ≡ turn)) ks → HaveSameAnswers d.period W V x ks
    alike_couplings x late ks ok own others = λ i k0 h.
        let k = get_or ks i k0 in
        let other = (ok i k0 h).other in
        elim (cases_eq x n) [
          | inl e ↦ λ g f.
              let to : k.to.0 ≡ n → ⊥ = λ q. other (q ∙ sym e) in
              let met : IsMetAlike d.period W n pair k.to.0 = elim (own e i k0 h) [ inl s ↦ s | inr t ↦ absurd (late (subst (λ (z : ℕ). slice_index told z ≡ turn) (sym e) t)) ] in
              let P : ℕ → Type 0 = λ z. overlaps d.period (W z g) (W k.to.0 f) ≡ overlaps d.period (V z g) (V k.to.0 f) in
              subst P (sym e) (met g f ∙ (ap (λ (q : Quad). overlaps d.period q (W k.to.0 f)) (sym (window_there g)) ∙ ap (overlaps d.period (V n g)) (window_else k.to.0 f to)))
          | inr ne ↦ elim (cases_eq k.to.0 n) [
            | inl q ↦ λ g f.
                let met : IsMetAlike d.period W n pair x = elim (others i k0 h q) [ inl s ↦ s | inr t ↦ absurd (late t) ] in
                let P : ℕ → Type 0 = λ z. overlaps d.period (W x g) (W z f) ≡ overlaps d.period (V x g) (V z f) in
                subst P (sym q) (overlaps_swapped d.period (W x g) (W n f) ∙ (met f g ∙ (overlaps_swapped d.period (quad_at pair f) (W x g)
                ∙ (ap (overlaps d.period (W x g)) (sym (window_there f)) ∙ ap (λ (r : Quad). overlaps d.period r (V n f)) (window_else x g ne)))))
            | inr nq ↦ λ g f. ap (λ (r : Quad). overlaps d.period r (W k.to.0 f)) (window_else x g ne) ∙ ap (overlaps d.period (V x g)) (window_else k.to.0 f nq)
          ]
        ]

    alike_at : (x : ℕ) → (slice_index told x ≡ turn → ⊥) → IfSome (slice_get d.nets x) (λ net. HaveSameAnswers d.period W V x net.couplings)
    alike_at x late = both_some (slice_get d.nets x) (slice_get d.nets n) (λ e. ap (slice_get d.nets) e) (couplings_at d sound x) tells.own (tells.others x) where
      both_some : (o p : Option Net) → (x ≡ n → o ≡ p) → IfSome o (λ net. All (IsSoundCoupling d x) net.couplings)
          → IfSome p (λ net. All (λ k. IsMetAlike d.period W n pair k.to.0 ⊎ (slice_index told n ≡ turn)) net.couplings)
          → IfSome o (λ net. All (λ k. k.to.0 ≡ n → IsMetAlike d.period W n pair x ⊎ (slice_index told x ≡ turn)) net.couplings)
          → IfSome o (λ net. HaveSameAnswers d.period W V x net.couplings)
      both_some None p same ok own others = tt
      both_some (Some net) p same ok own others =
          alike_couplings x late net.couplings ok
          (λ e. subst (λ (o : Option Net). IfSome o (λ y. All (λ k. IsMetAlike d.period W n pair k.to.0 ⊎ (slice_index told n ≡ turn)) y.couplings)) (sym (same e)) own) others

    module _ (y : ℕ) (net : Net) (at : slice_get d.nets y ≡ Some net) (settled : IsSettledNet after y net) where
      not_now : (x : ℕ) → slice_index told x < slice_index after.seen y → slice_index told x ≡ turn → ⊥
      not_now x h e = let p = seen_past y in omega (arith, h, e, p)

      decided : AreDecidedAlike d W V y
      decided = record { arcs = subst (λ (o : Option Net). IfSome o (λ z. All (IsFedAlike d W V y z) z.arcs)) (sym at) arcs } where
        own : HaveSameAnswers d.period W V y net.couplings
        own = subst (λ (o : Option Net). IfSome o (λ z. HaveSameAnswers d.period W V y z.couplings)) at (alike_at y (not_now y settled.own))

        arcs : All (IsFedAlike d W V y net) net.arcs
        arcs = λ i a0 h.
            let a = get_or net.arcs i a0 in
            let old = settled.inputs i a0 h in
            let other : a.from.0 ≡ n → ⊥ = λ e.
            let P : ℕ → Type 0 = λ x. slice_index after.moved x < slice_index after.seen y in
            let now = subst P e old.moved in let here = moved_here in let p = seen_past y in omega (arith, now, here, p) in
            record { window = window_else a.from.0 a.input other; own = own; from = alike_at a.from.0 (not_now a.from.0 old.answers) }

      made_alike : made_of d later y ≡ made_of d words y
      made_alike = let e : (f : Edge) → operator d V y f ≡ operator d W y f = λ f. sym (same_where_decided d W V y f decided) in same_pair _ _ (e Rise) (e Fall)

      -- what was settled before
      before_settled : (y ≡ n → ⊥) → IsSettledNet m y net
      before_settled other =
          let seen = get_or-set_other m.seen n y turn 0 other in
          let earlier : (x : ℕ) → slice_index told x < slice_index after.seen y → slice_index m.answers x < slice_index m.seen y = λ x h. elim (tells.told.each x) [
            | inl e ↦ omega (arith, h, e, seen)
            | inr e ↦ absurd (not_now x h e)
          ] in
          record {
            own = earlier y settled.own;
            inputs = λ i a0 h.
                let a = get_or net.arcs i a0 in
                let old = settled.inputs i a0 h in
                record {
                  moved = elim (cases_eq a.from.0 n) [
                    | inl e ↦
                        let P : ℕ → Type 0 = λ x. slice_index after.moved x < slice_index after.seen y in
                        let now = subst P e old.moved in let here = moved_here in let p = seen_past y in absurd (let bad : ⊥ = omega (arith, now, here, p) in bad)
                    | inr ne ↦ let e = get_or-set_other m.moved n a.from.0 turn 0 ne in let h' = old.moved in omega (arith, h', e, seen)
                  ];
                  answers = earlier a.from.0 old.answers;
                };
          }

      holds : y < length d.nets → IsHeld d later y
      holds there_y = elim (cases_eq y n) [
        | inl e ↦
            let P : ℕ → Type 0 = λ z. HoldPair later z (made_of d words z) in
            let R : ℕ → Type 0 = λ z. IsPairInRange (made_of d words z) in
            record {
              hold = subst (λ (p : Pair). HoldPair later y p) (sym made_alike) (subst P (sym e) (subst (λ (p : Pair). HoldPair later n p) made held));
              range = subst IsPairInRange (sym made_alike) (subst R (sym e) (subst IsPairInRange made range));
            }
        | inr ne ↦
            let old = are.settled y there_y (subst (λ (o : Option Net). IfSome o (IsSettledNet m y)) (sym at) (before_settled ne)) in
            record {
              hold = λ i h. same (8 * y + i) (λ e. ne (omega (arith, e, h))) ∙ (old.hold i h ∙ sym (ap (λ (p : Pair). number_for (bound_at p i)) made_alike));
              range = subst IsPairInRange (sym made_alike) old.range;
            }
      ]

    pub marks_after : AreMarks d later after
    marks_after = record {
      counts = record { moved = length-set m.moved n turn ∙ are.counts.moved; answers = tells.told.count ∙ are.counts.answers; seen = length-set m.seen n turn ∙ are.counts.seen };
      past = seen_past;
      settled = λ y there_y settled. settled_at y there_y (slice_get d.nets y) refl settled;
    } where
      settled_at : (y : ℕ) → y < length d.nets → (o : Option Net) → slice_get d.nets y ≡ o → IfSome o (IsSettledNet after y) → IsHeld d later y
      settled_at y there_y None at h = absurd (some_there d.nets y there_y at)
      settled_at y there_y (Some net) at h = holds y net at h there_y

-- ---- what is told
pub pair_quads : (p : Pair) (F : Edge → Quad) → p.rise ≡ F Rise → p.fall ≡ F Fall → (e : Edge) → quad_at p e ≡ F e
pair_quads p F rise fall Rise = rise
pair_quads p F rise fall Fall = fall

pub met_from : (period : Option ℤ) (W : Assignment) (n : ℕ) (before pair : Pair) (m : ℕ) → ((e : Edge) → quad_at before e ≡ W n e)
    → ((e f : Edge) → overlaps period (quad_at before e) (W m f) ≡ overlaps period (quad_at pair e) (W m f)) → IsMetAlike period W n pair m
met_from period W n before pair m is h e f = ap (λ (q : Quad). overlaps period q (W m f)) (sym (is e)) ∙ h e f

pub told_none : (turn : ℕ) (x : List ℕ) → AreTold turn x x
told_none turn x = record { count = refl; each = λ m. inl refl }

pub told_twice : (turn : ℕ) (x y z : List ℕ) → AreTold turn x y → AreTold turn y z → AreTold turn x z
told_twice turn x y z h k = record {
  count = k.count ∙ h.count;
  each = λ m. elim (k.each m) [
    | inl e ↦ elim (h.each m) [ inl f ↦ inl (e ∙ f) | inr f ↦ inr (e ∙ f) ]
    | inr e ↦ inr e
  ];
}

pub still_told : (turn : ℕ) (y z : List ℕ) (m : ℕ) → AreTold turn y z → slice_index y m ≡ turn → slice_index z m ≡ turn
still_told turn y z m k h = elim (k.each m) [ inl e ↦ e ∙ h | inr e ↦ e ]

pub told_still : (A : Type 0) (turn : ℕ) (y z : List ℕ) (m : ℕ) → AreTold turn y z → A ⊎ (slice_index y m ≡ turn) → A ⊎ (slice_index z m ≡ turn)
told_still A turn y z m k h = elim h [ inl a ↦ inl a | inr t ↦ inr (still_told turn y z m k t) ]

module _ (d : Parts) (W : Assignment) (n : ℕ) (pair : Pair) (turn : ℕ) (lists : List (List NetId)) (x y z : List ℕ) (others : List NetId) (Alike : ℕ → Type 0) (alike : (m : ℕ) → Alike m → IsMetAlike d.period W n pair m) where
  own_still : (o : Option Net) → AreTold turn y z → IfSome o (λ net. All (λ k. Alike k.to.0 ⊎ (slice_index y n ≡ turn)) net.couplings)
      → IfSome o (λ net. All (λ k. IsMetAlike d.period W n pair k.to.0 ⊎ (slice_index z n ≡ turn)) net.couplings)
  own_still None told h = tt
  own_still (Some net) told h = λ i k below. elim (h i k below) [ inl s ↦ inl (alike (get_or net.couplings i k).to.0 s) | inr t ↦ inr (still_told turn y z n told t) ]

  others_there : (m : ℕ) (o : Option Net) → others ≡ reads_of lists n → ((j : ℕ) → Contains (ids others) j → Alike j ⊎ (slice_index z j ≡ turn))
      → IfSome o (λ net. All (λ k. Contains (list_of lists k.to.0) m) net.couplings) → IfSome o (λ net. All (λ k. k.to.0 ≡ n → IsMetAlike d.period W n pair m ⊎ (slice_index z m ≡ turn)) net.couplings)
  others_there m None is h listed = tt
  others_there m (Some net) is h listed = λ i k0 below e.
      let has = listed i k0 below in
      let there : Contains (list_of lists n) m = subst (λ (j : ℕ). Contains (list_of lists j) m) e has in
      elim (h m (subst (λ (xs : List NetId). Contains (ids xs) m) (sym is) there)) [ inl s ↦ inl (alike m s) | inr t ↦ inr t ]

  pub told_all : AreListed d lists → others ≡ reads_of lists n → AreTold turn x y → IfSome (slice_get d.nets n) (λ net. All (λ k. Alike k.to.0 ⊎ (slice_index y n ≡ turn)) net.couplings)
      → AreTold turn y z → ((j : ℕ) → Contains (ids others) j → Alike j ⊎ (slice_index z j ≡ turn)) → HaveTold d W n pair turn x z
  told_all listed is first own second h = record {
    told = told_twice turn x y z first second;
    own = own_still (slice_get d.nets n) second own;
    others = λ m. others_there m (slice_get d.nets m) is h (listed.each m);
  }

-- ---- windows of a move
same_true : (a b : Bool) → IsTrue a → IsTrue b → a ≡ b
same_true a b h k = h ∙ sym k

same_false : (a b : Bool) → (IsTrue a → IsTrue b) → IsFalse b → a ≡ b
same_false true b h k = sym (h refl)
same_false false b h k = sym k

-- the inner of two windows overlaps no more than the outer
pub alike_there : (period : Option ℤ) (q s r : Quad) → IsRealPeriod period → IsWithin q s → IsTrue (overlaps period q r) → overlaps period q r ≡ overlaps period s r
alike_there period q s r real within h = same_true (overlaps period q r) (overlaps period s r) h (overlaps_mono period q r s r real within (within_refl r) h)

pub alike_apart : (period : Option ℤ) (q s r : Quad) → IsRealPeriod period → IsWithin q s → IsFalse (overlaps period s r) → overlaps period q r ≡ overlaps period s r
alike_apart period q s r real within h = same_false (overlaps period q r) (overlaps period s r) (λ t. overlaps_mono period q r s r real within (within_refl r) t) h

-- what the operator makes of kept words is at or past them
further_made : (way : Direction) (d : Parts) (words : List ℕ) → AreNoFurther way (bounds_in words) (onward d (bounds_in words)) → (n : ℕ) (e : Edge)
    → IsNoFurther way (quads_of (bounds_in words) n e) (operator d (quads_of (bounds_in words)) n e)
further_made way d words h n e =
    let f = bounds_in words in
    let at : AreNoFurther way (words_of (quads_of f)) (words_of (operator d (quads_of f))) = λ word.
    let P : ℤ → Type 0 = λ b. IsBoundNoFurther way (word % 2) b (onward d f word) in subst P (sym (words_of_quads f word)) (h word) in
    (windows_by_words way (quads_of f) (operator d (quads_of f)) at).each n e

quad_made : (d : Parts) (words : List ℕ) (n : ℕ) (e : Edge) → quad_at (made_of d words n) e ≡ operator d (quads_of (bounds_in words)) n e
quad_made d words n Rise = refl
quad_made d words n Fall = refl

-- ---- turns that move nothing
-- a later turn leaves what is settled
pub marks_later : (d : Parts) (words : List ℕ) (m : Marks) (turn : ℕ) → m.turn ≤ turn → AreMarks d words m → AreMarks d words (record m { turn = turn })
marks_later d words m turn on are = record {
  counts = record { moved = are.counts.moved; answers = are.counts.answers; seen = are.counts.seen };
  past = λ n. let p = are.past n in omega (arith, p, on);
  settled = λ n there settled. are.settled n there (still_settled n (slice_get d.nets n) settled);
} where
  still_settled : (n : ℕ) (o : Option Net) → IfSome o (IsSettledNet (record m { turn = turn }) n) → IfSome o (IsSettledNet m n)
  still_settled n None h = tt
  still_settled n (Some net) h = record { own = h.own; inputs = λ i a0 k. let old = h.inputs i a0 k in record { moved = old.moved; answers = old.answers } }

pub marks_begun : (d : Parts) (words : List ℕ) (m later : Marks) → m.turn ≤ later.turn → later ≡ record m { turn = later.turn } → AreMarks d words m → AreMarks d words later
marks_begun d words m later on rest are = subst (AreMarks d words) (sym rest) (marks_later d words m later.turn on are)

-- a net that is evaluated in a turn and has the words of that is settled
module _ (d : Parts) (words : List ℕ) (m : Marks) (n : ℕ) (are : AreMarks d words m) (hold : IsHeld d words n) where
  other_settled : (y : ℕ) (net : Net) → (y ≡ n → ⊥) → IsSettledNet (record m { seen = set m.seen n m.turn }) y net → IsSettledNet m y net
  other_settled y net other h =
      let e = get_or-set_other m.seen n y m.turn 0 other in
      record {
        own = let o = h.own in omega (arith, o, e);
        inputs = λ i a0 k. let old = h.inputs i a0 k in let x = old.moved in let z = old.answers in record { moved = omega (arith, x, e); answers = omega (arith, z, e) };
      }

  seen_settled : (y : ℕ) → y < length d.nets → (o : Option Net) → slice_get d.nets y ≡ o → IfSome o (IsSettledNet (record m { seen = set m.seen n m.turn }) y) → IsHeld d words y
  seen_settled y there None at h = absurd (some_there d.nets y there at)
  seen_settled y there (Some net) at h = elim (cases_eq y n) [
    | inl e ↦ subst (IsHeld d words) (sym e) hold
    | inr ne ↦ are.settled y there (subst (λ (o : Option Net). IfSome o (IsSettledNet m y)) (sym at) (other_settled y net ne h))
  ]

  seen_past_turn : (y : ℕ) → slice_index (set m.seen n m.turn) y ≤ m.turn
  seen_past_turn y = elim (cases_eq y n) [
    | inl e ↦ elim (cases_lt n (length m.seen)) [
      | inl k ↦ let here = get_or-set_same m.seen n m.turn 0 k in let P : ℕ → Type 0 = λ i. slice_index (set m.seen n m.turn) i ≤ m.turn in subst P (sym e) (omega (arith, here))
      | inr k ↦ let past = get_or_past (set m.seen n m.turn) y 0 (let l = length-set m.seen n m.turn in omega (arith, l, k, e)) in omega (arith, past)
    ]
    | inr ne ↦ let p = are.past y in let e = get_or-set_other m.seen n y m.turn 0 ne in omega (arith, p, e)
  ]

  pub marks_seen : AreMarks d words (record m { seen = set m.seen n m.turn })
  marks_seen = record {
    counts = record { moved = are.counts.moved; answers = are.counts.answers; seen = length-set m.seen n m.turn ∙ are.counts.seen };
    past = seen_past_turn;
    settled = λ y there settled. seen_settled y there (slice_get d.nets y) refl settled;
  }

-- before the first turn no net is settled
none_marked : (count n : ℕ) → slice_index (replicate count 0) n ≡ 0
none_marked zero n = get_or_past [] n 0 (omega arith)
none_marked (suc count) zero = refl
none_marked (suc count) (suc n) = none_marked count n

-- marks by which no net is settled
pub marks_unseen : (d : Parts) (words : List ℕ) (m : Marks) → AreMarksOf d m → IsUnseen m → AreMarks d words m
marks_unseen d words m counts unseen = record {
  counts = counts;
  past = λ n. let e = unseen n in omega (arith, e);
  settled = λ n there settled. none_at n there (slice_get d.nets n) refl settled;
} where
  none_at : (n : ℕ) → n < length d.nets → (o : Option Net) → slice_get d.nets n ≡ o → IfSome o (IsSettledNet m n) → IsHeld d words n
  none_at n there None at h = absurd (some_there d.nets n there at)
  none_at n there (Some net) at h = let o = h.own in let e = unseen n in absurd (let bad : ⊥ = omega (arith, o, e) in bad)

pub unseen_none : (m : Marks) (count : ℕ) → m.seen ≡ replicate count 0 → IsUnseen m
unseen_none m count seen = λ n. ap (λ xs. slice_index xs n) seen ∙ none_marked count n

pub counts_none : (d : Parts) (m : Marks) (count : ℕ) → count ≡ length d.nets → m.moved ≡ replicate count 0 → m.answers ≡ replicate count 0 → m.seen ≡ replicate count 0 → AreMarksOf d m
counts_none d m count many moved answers seen = record {
  moved = ap length moved ∙ (length-replicate count 0 ∙ many);
  answers = ap length answers ∙ (length-replicate count 0 ∙ many);
  seen = ap length seen ∙ (length-replicate count 0 ∙ many);
}

-- ---- publications of what the operator makes
further_there : (way : Direction) (side m x : ℕ) → IsBoundNoFurther way side (bound_in m) (bound_in x) → further way side m x ≡ x
further_there Widen zero m x h = let k = (numbers_order x m).0 h in omega (arith, k)
further_there Widen (suc s) m x h = let k = (numbers_order m x).0 h in omega (arith, k)
further_there Narrow zero m x h = let k = (numbers_order m x).0 h in omega (arith, k)
further_there Narrow (suc s) m x h = let k = (numbers_order x m).0 h in omega (arith, k)

-- publications at other places of a net leave a word
published_before : (way : Direction) (net : ℕ) (pair : Pair) (words : List ℕ) (k i : ℕ) → k ≤ i → number_at (published way net pair words k) (8 * net + i) ≡ number_at words (8 * net + i)
published_before way net pair words zero i h = refl
published_before way net pair words (suc k) i h =
    number_else (published way net pair words k) (8 * net + k) _ (8 * net + i) (λ e. omega (arith, e, h)) ∙ published_before way net pair words k i (omega arith)

published_count : (way : Direction) (net : ℕ) (pair : Pair) (words : List ℕ) (k : ℕ) → length (published way net pair words k) ≡ length words
published_count way net pair words zero = refl
published_count way net pair words (suc k) = length-set (published way net pair words k) (8 * net + k) _ ∙ published_count way net pair words k

-- what the operator makes of kept words is at or past them, so that it is left in the words
module _ (a : Setting) (words : List ℕ) (net : ℕ) (pair : Pair) (kept : AreKept a words) (there : net < nets_of a) (made : pair ≡ made_of a.design words net) (range : IsPairInRange pair) where
  pub pair_bounds : (i : ℕ) → i < 8 → bound_in (number_for (bound_at pair i)) ≡ bound_at pair i
  pair_bounds i h = (bound_there (bound_at pair i) (bound_in_range pair i range)).0

  past_there : (k : ℕ) → k < 8 → further a.way ((8 * net + k) % 2) (number_at words (8 * net + k)) (number_for (bound_at pair k)) ≡ number_for (bound_at pair k)
  past_there k h =
      let word = 8 * net + k in
      let at : bound_at pair k ≡ onward a.design (bounds_in words) word = ap (λ (p : Pair). bound_at p k) made ∙ bound_onward a.design (bounds_in words) net k h in
      let e : onward a.design (bounds_in words) word ≡ bound_in (number_for (bound_at pair k)) = sym at ∙ sym (pair_bounds k h) in
      further_there a.way (word % 2) (number_at words word) (number_for (bound_at pair k)) (subst (IsBoundNoFurther a.way (word % 2) (bounds_in words word)) e (kept.fits word))

  published_first : (k : ℕ) → k ≤ 8 → (i : ℕ) → i < k → number_at (published a.way net pair words k) (8 * net + i) ≡ number_for (bound_at pair i)
  published_first zero h i lt = absurd (omega (arith, lt))
  published_first (suc k) h i lt =
      let before = published a.way net pair words k in
      let count = published_count a.way net pair words k in
      let size = kept.seen.count in
      elim (cases_lt i k) [
        | inl p ↦ number_else before (8 * net + k) _ (8 * net + i) (λ e. omega (arith, e, p)) ∙ published_first k (omega arith) i p
        | inr p ↦
            let e : k ≡ i = omega (arith, p, lt) in
            let P : ℕ → Type 0 = λ j. number_at (published a.way net pair words (suc k)) (8 * net + j) ≡ number_for (bound_at pair j) in
            subst P e (number_here before (8 * net + k) _ (omega (arith, count, size, there, h))
            ∙ (ap (λ x. further a.way ((8 * net + k) % 2) x (number_for (bound_at pair k))) (published_before a.way net pair words k k (omega arith)) ∙ past_there k (omega (arith, h))))
      ]

  pub published_held : HoldPair (published a.way net pair words 8) net pair
  published_held i h = published_first 8 (omega arith) i h

-- ---- windows whose numbers are in the words
same_number : (m n : ℕ) → bound_in m ≡ bound_in n → m ≡ n
same_number m n e = omega (arith, ints, e)

same_words : (xs ys : List ℕ) → length xs ≡ length ys → ((word : ℕ) → bounds_in xs word ≡ bounds_in ys word) → xs ≡ ys
same_words xs ys count h = same_lists xs ys count (λ k x below.
    get_or_default xs k x (quiet_number (k % 2)) below
    ∙ (same_number (number_at xs k) (number_at ys k) (h k) ∙ get_or_default ys k (quiet_number (k % 2)) x (omega (arith, count, below))))

set_there : (v : List Pair) (n : ℕ) (p : Pair) (e : Edge) → n < length v → assigned (set v n p) n e ≡ quad_at p e
set_there [] n p e h = absurd (omega (arith, h))
set_there (q ∷ v) zero p e h = refl
set_there (q ∷ v) (suc n) p e h = set_there v n p e (omega (arith, h))

set_else : (v : List Pair) (n m : ℕ) (p : Pair) (e : Edge) → (m ≡ n → ⊥) → assigned (set v n p) m e ≡ assigned v m e
set_else [] n m p e other = refl
set_else (q ∷ v) zero zero p e other = absurd (other refl)
set_else (q ∷ v) zero (suc m) p e other = refl
set_else (q ∷ v) (suc n) zero p e other = refl
set_else (q ∷ v) (suc n) (suc m) p e other = set_else v n m p e (λ k. other (ap suc k))

-- the windows that the words stand for
quad_here : (words : List ℕ) (v : List Pair) → All IsPairInRange v → numbers_of v ≡ words → (n : ℕ) (e : Edge) → quads_of (bounds_in words) n e ≡ assigned v n e
quad_here words v range is n e = ap (λ (f : ℕ → ℤ). quads_of f n e) (words_here words v range is) ∙ quads_of_words (assigned v) n e

quads_here : (words : List ℕ) (v : List Pair) → All IsPairInRange v → numbers_of v ≡ words → quads_of (bounds_in words) ≡ assigned v
quads_here words v range is = λ i n e. quad_here words v range is n e i

-- they are a view of the words
module _ (b : Memory) (d : Parts) (net : ℕ) (v : List Pair) (is : numbers_of v ≡ b.words) (range : All IsPairInRange v) (own : b.setting.design ≡ d) (kept : AreKept b.setting b.words) (there : net < length d.nets) where
  eight_each : 8 * length v ≡ length b.words
  eight_each = let n = numbers_count v in let e = ap length is in omega (arith, n, e)

  pub windows_here : IsWindows d v
  windows_here = record {
    count = (let n = eight_each in let c = kept.seen.count in let e = ap (λ (x : Parts). length x.nets) own in omega (arith, n, c, e));
    in_range = range;
  }

  pub windows_reach : HoldsOfReads (HasNet (λ word. word < 8 * length v)) d net
  windows_reach = subst (λ (n : ℕ). HoldsOfReads (HasNet (λ word. word < n)) d net) (sym eight_each) (view_words b d net b.words refl own kept there)

  pub windows_room : ReadsWithinEnvelope d (quads_of (words_of (assigned v))) net
  windows_room = subst (λ (f : ℕ → ℤ). ReadsWithinEnvelope d (quads_of f) net) (words_here b.words v range is) (view_room b d net b.words refl own kept there)

  pub windows_made : (pair : Pair) → pair.rise ≡ operator d (quads_of (words_of (assigned v))) net Rise → pair.fall ≡ operator d (quads_of (words_of (assigned v))) net Fall → pair ≡ made_of d b.words net
  windows_made pair rise fall =
      let at : (e : Edge) → operator d (quads_of (words_of (assigned v))) net e ≡ operator d (quads_of (bounds_in b.words)) net e =
      λ e. ap (λ (f : ℕ → ℤ). operator d (quads_of f) net e) (sym (words_here b.words v range is)) in
      view_made b d net b.words refl own kept there pair (rise ∙ at Rise) (fall ∙ at Fall)

-- a net moves on from its windows to what the operator makes
pub moves_further : (b : Memory) (d : Parts) (way : Direction) (v : List Pair) (n : ℕ) (pair : Pair) → AreKept b.setting b.words → b.setting.design ≡ d → b.setting.way ≡ way → IsWindows d v → numbers_of v ≡ b.words
    → pair ≡ made_of d b.words n → (e : Edge) → IsNoFurther way (assigned v n e) (quad_at pair e)
moves_further b d way v n pair kept own to windows is made e =
    let a = b.setting in
    let W = quads_of (bounds_in b.words) in
    let there : IsNoFurther way (W n e) (operator d W n e) =
    subst (λ (x : Parts). IsNoFurther way (W n e) (operator x W n e)) own (subst (λ (y : Direction). IsNoFurther y (W n e) (operator a.design W n e)) to (further_made a.way a.design b.words kept.fits n e)) in
    let made_at : quad_at pair e ≡ operator d W n e = ap (λ (p : Pair). quad_at p e) made ∙ quad_made d b.words n e in
    subst (λ (q : Quad). IsNoFurther way q (quad_at pair e)) (quad_here b.words v windows.in_range is n e) (subst (λ (q : Quad). IsNoFurther way (W n e) q) (sym made_at) there)

-- ---- a net that moves, in the words of the code
module _ (b : Memory) (d : Parts) (later : List ℕ) (net : ℕ) (pair : Pair) (way : Direction) (kept : AreKept b.setting b.words) (own : b.setting.design ≡ d) (to : b.setting.way ≡ way) (there : net < length d.nets)
    (range : IsPairInRange pair) (made : pair ≡ made_of d b.words net) (words : later ≡ published way net pair b.words 8) where
  there_own : net < nets_of b.setting
  there_own = rw own there

  made_own : pair ≡ made_of b.setting.design b.words net
  made_own = rw own made

  held_later : HoldPair later net pair
  held_later =
      let held = published_held b.setting b.words net pair kept there_own made_own range in
      subst (λ ws. HoldPair ws net pair) (sym words) (subst (λ (w : Direction). HoldPair (published w net pair b.words 8) net pair) to held)

  same_later : (w : ℕ) → (w / 8 ≡ net → ⊥) → number_at later w ≡ number_at b.words w
  same_later w other = ap (λ ws. number_at ws w) words ∙ published_else way net pair b.words 8 w (omega arith) other

  bounds_later : (i : ℕ) → i < 8 → bound_in (number_for (bound_at pair i)) ≡ bound_at pair i
  bounds_later = pair_bounds b.setting b.words net pair kept there_own made_own range

  pub marks_moved : (v : List Pair) (m told seen end : Marks) → IsWindows d v → numbers_of v ≡ b.words → AreMarks d b.words m → HaveTold d (assigned v) net pair m.turn m.answers told.answers
      → told ≡ record m { answers = told.answers } → seen ≡ record told { seen = set told.seen net told.turn } → end ≡ record seen { moved = set seen.moved net seen.turn } → AreMarks d later end
  marks_moved v m told seen end windows here are tells first second third =
      let sound : IsSound d = subst IsSound own kept.seen.sound in
      let told_here = subst (λ (W : Assignment). HaveTold d W net pair m.turn m.answers told.answers) (sym (quads_here b.words v windows.in_range here)) tells in
      let is : end ≡ record { turn = m.turn; moved = set m.moved net m.turn; answers = told.answers; seen = set m.seen net m.turn } =
      third ∙ ap (λ (x : Marks). record x { moved = set x.moved net x.turn }) (second ∙ ap (λ (x : Marks). record x { seen = set x.seen net x.turn }) first) in
      subst (AreMarks d later) (sym is) (marks_after b.words later net pair same_later held_later bounds_later d sound there m m.turn told.answers are (omega arith) told_here made range)

  -- the windows of the words after it
  pub windows_moved : (v w : List Pair) → IsWindows d v → numbers_of v ≡ b.words → w ≡ set v net pair → numbers_of w ≡ later
  windows_moved v w windows is moved =
      let now : List Pair = set v net pair in
      let inside : net < length v = let c = windows.count in omega (arith, c, there) in
      let in_now : All IsPairInRange now = All-set IsPairInRange v net pair range windows.in_range in
      let each : (m : ℕ) (f : Edge) → assigned now m f ≡ quads_of (bounds_in later) m f = λ m f. elim (cases_eq m net) [
        | inl e ↦
            let P : ℕ → Type 0 = λ x. assigned now x f ≡ quads_of (bounds_in later) x f in
            subst P (sym e) (set_there v net pair f inside ∙ sym (window_there b.words later net pair same_later held_later bounds_later f))
        | inr ne ↦
            set_else v net m pair f ne ∙ (sym (quad_here b.words v windows.in_range is m f) ∙ window_else b.words later net pair same_later held_later bounds_later m f ne)
      ] in
      let count : length (numbers_of now) ≡ length later =
      let n = numbers_count now in let l = length-set v net pair in let k = numbers_count v in let e = ap length is in let o = ap length words in let p = published_count way net pair b.words 8 in omega (arith, n, l, k, e, o, p) in
      subst (λ (x : List Pair). numbers_of x ≡ later) (sym moved)
      (same_words (numbers_of now) later count
      (λ word. numbers_each now word in_now ∙ (ap (λ (q : Quad). side_of q (word % 4)) (each (word / 8) (edge_of (word / 4 % 2))) ∙ words_of_quads (bounds_in later) word)))

-- the input nets of a sound net are there
pub inputs_there : (d : Parts) (n : ℕ) (net : Net) (count : ℕ) → count ≡ length d.nets → IsSoundNet d n net → All (λ a. a.from.0 < count) net.arcs
inputs_there d n net count many sound = λ i a0 h.
    let arc = sound.arcs i a0 h in
    let a = get_or net.arcs i a0 in
    let there = has_sink d a.from.0 a.sink (slice_get d.nets a.from.0) refl arc.sink in
    omega (arith, there, many)
