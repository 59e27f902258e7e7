-- The first pass looks at a mark while none is out: the rule is kept.
use Rattle.std.proofs.Common.{◌≡◌, ◌≢◌, ◌⊎◌, ℕ, ◌<◌, inl, inr, refl, sym, subst, ◌∙◌, List, [], ◌∷◌, set, Contains, arith}
use Rattle.std.proofs.lemmas.Bool.{cases_eq}
use Rattle.std.proofs.lemmas.List.Elements.{Contains-append_left, Contains-push, Contains-push_cases}
use Rattle.chaos_core.specs.Boards.{nets_of}
use Rattle.window_words.specs.Views.{IsUnspent}
use Rattle.dirty_words.specs.declared.view.DirtyView.{DirtyView}
use Rattle.dirty_words.specs.Views.{run_of, with_found, with_clear}
use Rattle.dirty_words.specs.Rule.{IsThere, IsLive, SomeLive, mark_at, FliesWell, KnowsClear, HasTaken, HasFound, IsLeft, AreTracked, KeptAt}
use Rattle.dirty_words.specs.Boards.{IsAlone}
use Rattle.dirty_words.specs.Steps.{Looked}
use Rattle.dirty_words.proofs.Nets.{stays, stayed}
use Rattle.dirty_words.proofs.Live.{each_live, some_here, some_on, only_live, here}
use Rattle.dirty_words.proofs.Marks.{zero_or_one, not_both}
use Rattle.dirty_words.proofs.Below.{below_same, whole_here}
use Rattle.dirty_words.proofs.Covering.{covered_same}
use Rattle.dirty_words.proofs.Tracking.{taken_on, left_on}
use Rattle.dirty_words.proofs.Closing.{no_other, clear_past, past_seen, all_clear}

module _ (v : DirtyView) (now marks : List ℕ) (next : ℕ) (views : List DirtyView) (k : KeptAt (run_of v) now marks next views) (id : ℕ) (there : IsThere views id v) (alone : IsAlone v) (net : ℕ) (inside : net < nets_of v.base.setting) where
  live : IsLive v
  live = subst IsUnspent (sym alone.0) tt

  others : (P : DirtyView → Type 0) (j : ℕ) (u : DirtyView) → j ≢ id → IsThere views j u → IsLive u → P u
  others P j u ne at l = absurd (no_other v now marks next views k id there alone j u ne at l)

  -- ---- the net is marked
  module _ (one : mark_at marks net ≡ 1) where
    abbrev f' : DirtyView
    f' = with_found v net

    found_tracked : AreTracked marks (set views id f')
    found_tracked =
        let turn : (m : ℕ) → m ≢ net → (mark_at marks m ≡ 1) ⊎ SomeLive views (HasTaken m) → (mark_at marks m ≡ 1) ⊎ SomeLive (set views id f') (HasTaken m) =
        λ m ne h. elim h [
          | inl e ↦ inl e
          | inr s ↦ inr (some_on (HasTaken m) views id v f' there live (taken_on v f' m refl (λ n c. c) (λ c. stays net m v.taken ne c)) s)
        ] in
        record {
          found = each_live (λ u. (m : ℕ) → Contains u.found m → (mark_at marks m ≡ 1) ⊎ SomeLive (set views id f') (HasTaken m)) views id f'
              (others (λ u. (m : ℕ) → Contains u.found m → (mark_at marks m ≡ 1) ⊎ SomeLive (set views id f') (HasTaken m)))
              (λ l m c. elim (cases_eq m net) [
                | inl e ↦ inl (subst (λ n. mark_at marks n ≡ 1) (sym e) one)
                | inr ne ↦ elim (Contains-push_cases v.found net m c) [
                  | inl old ↦ turn m ne (k.tracked.found id v there live m old)
                  | inr is ↦ absurd (ne (sym is))
                ]
              ]);
          traced = λ m e. elim (cases_eq m net) [
            | inl is ↦
                let left : IsLeft (set views id f') net = record {
                  found = some_here (HasFound net) views id v f' there live (record { first = alone.0; found = Contains-push v.found net });
                  none = each_live (λ u. Contains u.taken net → ⊥) views id f' (others (λ u. Contains u.taken net → ⊥)) (λ l c. (stayed net net v.taken c).1 refl);
                } in
                inr (subst (IsLeft (set views id f')) (sym is) left)
            | inr ne ↦ elim (k.tracked.traced m e) [
              | inl s ↦ inl (some_on (λ u. Contains u.noted m) views id v f' there live (λ c. stays net m v.noted ne c) s)
              | inr left ↦ inr (left_on views id v f' m there live live (λ h. record { first = h.first; found = Contains-append_left v.found (net ∷ []) m h.found }) (λ c. (stayed net m v.taken c).0) left)
            ]
          ];
        }

    pub found_kept : KeptAt (run_of v) now marks next (set views id f')
    found_kept = record {
      below = below_same v.base.setting now next views k.below id v there f' refl;
      whole = k.whole;
      known = each_live (λ u. u.lists ≡ v.lists) views id f' (λ j u ne at l. k.known j u at l) (λ l. refl);
      fits = k.fits;
      covered = λ m lt. covered_same (run_of v) now marks views id v f' m there live refl refl (k.covered m lt);
      flown = each_live (FliesWell (run_of v)) views id f' (λ j u ne at l. k.flown j u at l) (λ l f e. k.flown id v there live f e);
      clear = each_live (KnowsClear marks) views id f' (λ j u ne at l. k.clear j u at l) (λ l m c. k.clear id v there live m (stayed net m v.clear c).0);
      tracked = found_tracked;
    }

  -- ---- it is not
  module _ (zero : mark_at marks net ≡ 0) where
    abbrev c' : DirtyView
    c' = with_clear v net

    clear_tracked : AreTracked marks (set views id c')
    clear_tracked = record {
      found = each_live (λ u. (m : ℕ) → Contains u.found m → (mark_at marks m ≡ 1) ⊎ SomeLive (set views id c') (HasTaken m)) views id c'
          (others (λ u. (m : ℕ) → Contains u.found m → (mark_at marks m ≡ 1) ⊎ SomeLive (set views id c') (HasTaken m)))
          (λ l m c. elim (k.tracked.found id v there live m (stayed net m v.found c).0) [
            | inl e ↦ inl e
            | inr s ↦ inr (some_on (HasTaken m) views id v c' there live (taken_on v c' m refl (λ n c. c) (λ c. c)) s)
          ]);
      traced = λ m e. elim (cases_eq m net) [
        | inl is ↦ absurd (not_both (mark_at marks m) (subst (λ n. mark_at marks n ≡ 0) (sym is) zero) e)
        | inr ne ↦ elim (k.tracked.traced m e) [
          | inl s ↦ inl (some_on (λ u. Contains u.noted m) views id v c' there live (λ c. stays net m v.noted ne c) s)
          | inr left ↦ inr (left_on views id v c' m there live live (λ h. record { first = h.first; found = stays net m v.found ne h.found }) (λ c. c) left)
        ]
      ];
    }

    pub clear_kept : KeptAt (run_of v) now marks next (set views id c')
    clear_kept = record {
      below = below_same v.base.setting now next views k.below id v there c' refl;
      whole = k.whole;
      known = each_live (λ u. u.lists ≡ v.lists) views id c' (λ j u ne at l. k.known j u at l) (λ l. refl);
      fits = k.fits;
      covered = λ m lt. covered_same (run_of v) now marks views id v c' m there live refl refl (k.covered m lt);
      flown = each_live (FliesWell (run_of v)) views id c' (λ j u ne at l. k.flown j u at l) (λ l f e. k.flown id v there live f e);
      clear = each_live (KnowsClear marks) views id c' (λ j u ne at l. k.clear j u at l) (λ l m c. elim (Contains-push_cases v.clear net m c) [
        | inl old ↦ k.clear id v there live m old
        | inr is ↦ (alone, subst (λ n. mark_at marks n ≡ 0) is zero)
      ]);
      tracked = clear_tracked;
    }

  -- ---- what is told
  why : mark_at marks net ≡ 1 → Contains v.noted net ⊎ (Contains v.found net × (Contains v.taken net → ⊥))
  why e =
      let none = no_other v now marks next views k id there alone in
      elim (k.tracked.traced net e) [
        | inl s ↦ inl (only_live (λ u. Contains u.noted net) views id v there none s)
        | inr left ↦ inr ((only_live (HasFound net) views id v there none left.found).found, left.none id v there live)
      ]

  tells : (mark : ℕ) (w : DirtyView) → mark_at marks net ≡ mark → (mark ≡ 1 → w ≡ with_found v net) → (mark ≡ 0 → w ≡ with_clear v net) → IsAlone w → KeptAt (run_of w) now marks next (set views id w) → Looked v net mark w
  tells mark w is found clear single after =
      let whole = whole_here v.base.setting now next views k.below id v there alone.0 alone.1 0 refl in
      record {
        two = zero_or_one mark (let h = k.fits.each net in omega (arith, h, is));
        found = found;
        clear = clear;
        why = λ e. why (is ∙ e);
        past = λ e free. past_seen v now marks next views k id there alone net (clear_past v now marks next views k id there alone free net inside (is ∙ e));
        fits = whole.fits;
        next = whole.next;
        drawn = whole.drawn;
        closed = λ free each. all_clear w now marks next (set views id w) after id (here views id v w there) single free each;
      }

  pub tells_found : mark_at marks net ≡ 1 → Looked v net (mark_at marks net) (with_found v net)
  tells_found e = tells (mark_at marks net) (with_found v net) refl (λ _. refl) (λ z. absurd (not_both (mark_at marks net) z e)) alone (found_kept e)

  pub tells_clear : mark_at marks net ≡ 0 → Looked v net (mark_at marks net) (with_clear v net)
  tells_clear e = tells (mark_at marks net) (with_clear v net) refl (λ o. absurd (not_both (mark_at marks net) e o)) (λ _. refl) alone (clear_kept e)
