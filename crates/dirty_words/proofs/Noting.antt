-- A mark is set by a pass that owes it: the rule is kept.
use Rattle.std.proofs.Common.{◌≡◌, ◌≢◌, ◌⊎◌, ℕ, ◌<◌, inl, inr, refl, sym, subst, ◌∙◌, List, [], ◌∷◌, ◌++◌, set, Contains, arith}
use Rattle.std.proofs.lemmas.Bool.{cases_eq}
use Rattle.std.proofs.lemmas.List.Elements.{Contains-append_left, Contains-push}
use Rattle.chaos_core.specs.Boards.{nets_of}
use Rattle.window_words.proofs.Alone.{not_spent}
use Rattle.dirty_words.specs.declared.view.DirtyView.{DirtyView}
use Rattle.dirty_words.specs.Views.{run_of, with_noted}
use Rattle.dirty_words.specs.Rule.{IsThere, IsLive, SomeLive, mark_at, HasInFlight, IsCovered, marked, owing, flying, FliesWell, KnowsClear, HasTaken, AreTracked, KeptAt}
use Rattle.dirty_words.proofs.Nets.{stays, stayed}
use Rattle.dirty_words.proofs.Live.{each_live, some_here, some_on}
use Rattle.dirty_words.proofs.Marks.{mark_here, mark_else, marks_set}
use Rattle.dirty_words.proofs.Below.{below_same, others_out}
use Rattle.dirty_words.proofs.Covering.{covered_here, flight_same}
use Rattle.dirty_words.proofs.Tracking.{taken_on, found_on, left_on}

module _ (v : DirtyView) (now marks : List ℕ) (next : ℕ) (views : List DirtyView) (k : KeptAt (run_of v) now marks next views) (id : ℕ) (there : IsThere views id v) (live : IsLive v) (net : ℕ) (inside : net < nets_of v.base.setting)
    (owed : Contains v.owed net) where
  abbrev after' : List ℕ
  after' = set marks net 1

  abbrev w' : DirtyView
  w' = with_noted v net

  here : mark_at after' net ≡ 1
  here = mark_here v.base.setting marks k.fits net 1 inside

  else : (m : ℕ) → m ≢ net → mark_at after' m ≡ mark_at marks m
  else m ne = mark_else v.base.setting marks k.fits net 1 inside m ne

  raises : (m : ℕ) → mark_at marks m ≡ 1 → mark_at after' m ≡ 1
  raises m e = elim (cases_eq m net) [ inl is ↦ subst (λ n. mark_at after' n ≡ 1) (sym is) here | inr ne ↦ else m ne ∙ e ]

  covers : (m : ℕ) → m < nets_of v.base.setting → IsCovered (run_of v) now after' (set views id w') m
  covers m lt = elim (cases_eq m net) [
    | inl e ↦ marked (subst (λ n. mark_at after' n ≡ 1) (sym e) here)
    | inr ne ↦ covered_here (run_of v) now marks after' views id v w' m there
        (λ e. marked (else m ne ∙ e))
        (λ c. owing (some_here (λ u. Contains u.owed m) views id v w' there live (stays net m v.owed ne c)))
        (λ h. flying (some_here (HasInFlight v.lists now m) views id v w' there live (flight_same v.lists now m v w' refl h)))
        (k.covered m lt)
  ]

  -- no other pass knows the net to be unmarked: none is out where one knows of any
  clears : (j : ℕ) (u : DirtyView) → j ≢ id → IsThere views j u → IsLive u → KnowsClear after' u
  clears j u ne at l m c =
      let h = k.clear j u at l m c in
      let spent = others_out v.base.setting now next views k.below j u at h.0.0 h.0.1 id v (λ e. ne (sym e)) there in
      absurd (not_spent v.base.role live spent)

  clears_own : KnowsClear after' w'
  clears_own m c =
      let old = stayed net m v.clear c in
      let h = k.clear id v there live m old.0 in
      (h.0, else m old.1 ∙ h.1)

  tracks : AreTracked after' (set views id w')
  tracks =
      let turn : (m : ℕ) → (mark_at marks m ≡ 1) ⊎ SomeLive views (HasTaken m) → (mark_at after' m ≡ 1) ⊎ SomeLive (set views id w') (HasTaken m) =
      λ m h. elim h [
        | inl e ↦ inl (raises m e)
        | inr s ↦ inr (some_on (HasTaken m) views id v w' there live (taken_on v w' m refl (λ n c. c) (λ c. c)) s)
      ] in
      record {
        found = each_live (λ u. (m : ℕ) → Contains u.found m → (mark_at after' m ≡ 1) ⊎ SomeLive (set views id w') (HasTaken m)) views id w'
            (λ j u ne at l m c. turn m (k.tracked.found j u at l m c)) (λ l m c. turn m (k.tracked.found id v there live m c));
        traced = λ m e. elim (cases_eq m net) [
          | inl is ↦ inl (some_here (λ u. Contains u.noted m) views id v w' there live (subst (Contains (v.noted ++ net ∷ [])) (sym is) (Contains-push v.noted net)))
          | inr ne ↦ elim (k.tracked.traced m (sym (else m ne) ∙ e)) [
            | inl s ↦ inl (some_on (λ u. Contains u.noted m) views id v w' there live (λ c. Contains-append_left v.noted (net ∷ []) m c) s)
            | inr left ↦ inr (left_on views id v w' m there live live (found_on v w' m refl (λ c. c)) (λ c. c) left)
          ]
        ];
      }

  pub noted_kept : KeptAt (run_of v) now after' next (set views id w')
  noted_kept = record {
    below = below_same v.base.setting now next views k.below id v there w' refl;
    whole = k.whole;
    known = each_live (λ u. u.lists ≡ v.lists) views id w' (λ j u ne at l. k.known j u at l) (λ l. refl);
    fits = marks_set v.base.setting marks k.fits net 1 inside (omega arith);
    covered = covers;
    flown = each_live (FliesWell (run_of v)) views id w' (λ j u ne at l. k.flown j u at l) (λ l f e. k.flown id v there live f e);
    clear = each_live (KnowsClear after') views id w' clears (λ l. clears_own);
    tracked = tracks;
  }
