-- A mark is taken: the rule is kept.
use Rattle.std.proofs.Common.{◌≡◌, ◌≢◌, ◌⊎◌, ℕ, ◌<◌, inl, inr, refl, sym, subst, ◌∙◌, List, [], ◌∷◌, ◌++◌, set, Contains, Option, Some, arith}
use Rattle.std.specs.Prelude.{slice_index}
use Rattle.std.proofs.lemmas.Bool.{cases_eq}
use Rattle.std.proofs.lemmas.Option.{same_Some, none-some}
use Rattle.std.proofs.lemmas.List.Elements.{Contains-append_left, Contains-push, Contains-push_cases}
use Rattle.xt_model.specs.Levels.{IsOrder}
use Rattle.chaos_core.specs.declared.setting.Setting.{Setting}
use Rattle.chaos_core.specs.Boards.{nets_of}
use Rattle.chaos_core.specs.Tasks.{list_of}
use Rattle.chaos_core.proofs.Loads.{none_loaded}
use Rattle.dirty_words.specs.declared.view.Flight.{Flight}
use Rattle.dirty_words.specs.declared.view.DirtyView.{DirtyView}
use Rattle.dirty_words.specs.Views.{run_of, bases, with_taken, with_missed}
use Rattle.dirty_words.specs.Rule.{IsThere, IsLive, SomeLive, mark_at, HasInFlight, IsCovered, marked, flying, IsFlown, FliesWell, KnowsClear, HasTaken, AreTracked, KeptAt}
use Rattle.dirty_words.specs.Boards.{IsAlone}
use Rattle.dirty_words.specs.Steps.{CanTake}
use Rattle.dirty_words.proofs.Nets.{none_there}
use Rattle.dirty_words.proofs.Live.{each_live, some_here, some_on, same_view}
use Rattle.dirty_words.proofs.Marks.{not_both, mark_here, mark_else, marks_set}
use Rattle.dirty_words.proofs.Below.{base_there, below_from, below_same, base_run}
use Rattle.dirty_words.proofs.Covering.{covered_here}
use Rattle.dirty_words.proofs.Tracking.{drawn_on, taken_on, found_on, left_on, one_place, drawn_once}

module _ (v : DirtyView) (now marks : List ℕ) (next : ℕ) (views : List DirtyView) (k : KeptAt (run_of v) now marks next views) (id : ℕ) (there : IsThere views id v) (live : IsLive v) (net : ℕ) (can : CanTake v net) where
  abbrev after' : List ℕ
  after' = set marks net 0

  -- v with another flight, and with the net among those that it took
  abbrev with' : Option Flight → List ℕ → DirtyView
  with' flight missed = record v { flight = flight; taken = v.taken ++ net ∷ []; missed = missed }

  here : mark_at after' net ≡ 0
  here = mark_here v.base.setting marks k.fits net 0 can.there

  else : (m : ℕ) → m ≢ net → mark_at after' m ≡ mark_at marks m
  else m ne = mark_else v.base.setting marks k.fits net 0 can.there m ne

  lower : (m : ℕ) → mark_at marks m ≡ 0 → mark_at after' m ≡ 0
  lower m e = elim (cases_eq m net) [ inl is ↦ subst (λ n. mark_at after' n ≡ 0) (sym is) here | inr ne ↦ else m ne ∙ e ]

  -- ---- the number that the pass drew, nobody else drew
  took_not : SomeLive views (HasTaken net) → ⊥
  took_not s =
      let a = v.base.setting in
      let u = s.view in
      let order = k.whole.ordered.0 in
      let o = k.whole.ordered.1 in
      let mine = can.drew in
      let other = s.holds.drew in
      let run : u.base.setting ≡ a = base_run a now next views k.below s.id u s.there s.live in
      let below : other.number < nets_of a = subst (λ (b : Setting). other.number < nets_of b) run other.below in
      let place : (order : List ℕ) → IsOrder a.design.nets order → slice_index order other.number ≡ net = subst (λ (b : Setting). (order : List ℕ) → IsOrder b.design.nets order → slice_index order other.number ≡ net) run other.place in
      let same : other.number ≡ mine.number = one_place a.design.nets order other.number mine.number net o below mine.below (place order o) (mine.place order o) in
      elim (cases_eq s.id id) [
        | inl e ↦
            let at : IsThere views id u = subst (λ j. IsThere views j u) e s.there in
            can.fresh (subst (λ (x : DirtyView). Contains x.taken net) (same_view views id u v at there) s.holds.taken)
        | inr ne ↦
            drawn_once next (bases views) id s.id v.base u.base mine.number (below_from a now next (bases views) k.below).drawn (base_there views id v there) (base_there views s.id u s.there) mine.drawn
            (subst (Contains u.base.drawn) same other.drawn) ne
      ]

  -- a net that was found marked still is
  pub found_marked : Contains v.found net → mark_at marks net ≡ 1
  found_marked c = elim (k.tracked.found id v there live net c) [ inl e ↦ e | inr s ↦ absurd (took_not s) ]

  pub clear_unmarked : IsAlone v → Contains v.clear net → mark_at marks net ≡ 0
  clear_unmarked alone c = (k.clear id v there live net c).1

  module _ (flight : Option Flight) (missed : List ℕ) (own : IsCovered (run_of v) now after' (set views id (with' flight missed)) net) (flies : (f : Flight) → flight ≡ Some f → IsFlown (run_of v) v.base.seen f) where
    abbrev w' : DirtyView
    w' = with' flight missed

    covers : (m : ℕ) → m < nets_of v.base.setting → IsCovered (run_of v) now after' (set views id w') m
    covers m inside = elim (cases_eq m net) [
      | inl e ↦ subst (IsCovered (run_of v) now after' (set views id w')) (sym e) own
      | inr ne ↦ covered_here (run_of v) now marks after' views id v w' m there
          (λ e. marked (else m ne ∙ e))
          (λ c. absurd (none_there m (subst (λ xs. Contains xs m) can.free.owed c)))
          (λ h. absurd (none-some h.flight (sym can.free.flight ∙ h.is)))
          (k.covered m inside)
    ]

    tracks : AreTracked after' (set views id w')
    tracks =
        let turn : (m : ℕ) → (mark_at marks m ≡ 1) ⊎ SomeLive views (HasTaken m) → (mark_at after' m ≡ 1) ⊎ SomeLive (set views id w') (HasTaken m) =
        λ m h. elim (cases_eq m net) [
          | inl e ↦
              let now_taken : SomeLive (set views id w') (HasTaken net) =
              some_here (HasTaken net) views id v w' there live (record { drew = drawn_on v w' net refl (λ n c. c) can.drew; taken = Contains-push v.taken net }) in
              inr (subst (λ n. SomeLive (set views id w') (HasTaken n)) (sym e) now_taken)
          | inr ne ↦ elim h [
            | inl e ↦ inl (else m ne ∙ e)
            | inr s ↦ inr (some_on (HasTaken m) views id v w' there live (taken_on v w' m refl (λ n c. c) (λ c. Contains-append_left v.taken (net ∷ []) m c)) s)
          ]
        ] in
        record {
          found = each_live (λ u. (m : ℕ) → Contains u.found m → (mark_at after' m ≡ 1) ⊎ SomeLive (set views id w') (HasTaken m)) views id w'
              (λ j u ne at l m c. turn m (k.tracked.found j u at l m c)) (λ l m c. turn m (k.tracked.found id v there live m c));
          traced = λ m e. elim (cases_eq m net) [
            | inl is ↦ absurd (not_both (mark_at after' m) (subst (λ n. mark_at after' n ≡ 0) (sym is) here) e)
            | inr ne ↦ elim (k.tracked.traced m (sym (else m ne) ∙ e)) [
              | inl s ↦ inl (some_on (λ u. Contains u.noted m) views id v w' there live (λ c. c) s)
              | inr left ↦ inr (left_on views id v w' m there live live (found_on v w' m refl (λ c. c))
                  (λ c. elim (Contains-push_cases v.taken net m c) [ inl old ↦ old | inr is ↦ absurd (ne (sym is)) ]) left)
            ]
          ];
        }

    takes : KeptAt (run_of v) now after' next (set views id w')
    takes = record {
      below = below_same v.base.setting now next views k.below id v there w' refl;
      whole = k.whole;
      known = each_live (λ u. u.lists ≡ v.lists) views id w' (λ j u ne at l. k.known j u at l) (λ l. refl);
      fits = marks_set v.base.setting marks k.fits net 0 can.there (omega arith);
      covered = covers;
      flown = each_live (FliesWell (run_of v)) views id w' (λ j u ne at l. k.flown j u at l) (λ l. flies);
      clear = each_live (KnowsClear after') views id w' (λ j u ne at l m c. let h = k.clear j u at l m c in (h.0, lower m h.1)) (λ l m c. let h = k.clear id v there live m c in (h.0, lower m h.1));
      tracked = tracks;
    }

  -- ---- the net was marked
  pub taken_kept : KeptAt (run_of v) now after' next (set views id (with_taken v net))
  taken_kept =
      let f : Flight = record { net = net; numbers = []; published = 0 } in
      let w = with_taken v net in
      let flight : HasInFlight v.lists now net w = record { flight = f; is = refl; own = refl; agrees = λ i h. absurd (omega (arith, h)) } in
      let good : IsFlown (run_of v) v.base.seen f = record {
        there = can.there;
        loaded = none_loaded v.base.setting v.base.seen (list_of v.lists net);
        more = omega arith;
        whole = λ h. absurd (omega (arith, h));
        past = λ i h. absurd (omega (arith, h));
      } in
      takes (Some f) v.missed (flying (some_here (HasInFlight v.lists now net) views id v w there live flight)) (λ g e. subst (IsFlown (run_of v) v.base.seen) (same_Some f g e) good)

  -- ---- and where it was not
  pub missed_kept : mark_at marks net ≡ 0 → KeptAt (run_of v) now after' next (set views id (with_missed v net))
  missed_kept zero =
      let w = with_missed v net in
      takes v.flight (v.missed ++ net ∷ [])
      (covered_here (run_of v) now marks after' views id v w net there
      (λ e. absurd (not_both (mark_at marks net) zero e))
      (λ c. absurd (none_there net (subst (λ xs. Contains xs net) can.free.owed c)))
      (λ h. absurd (none-some h.flight (sym can.free.flight ∙ h.is)))
      (k.covered net can.there))
      (λ f e. k.flown id v there live f e)
