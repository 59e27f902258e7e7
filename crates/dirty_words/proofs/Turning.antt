-- A number is drawn, and the numbers begin anew: the rule is kept.
use Rattle.std.proofs.Common.{◌≡◌, ◌≢◌, ◌⊎◌, ℕ, ◌+◌, inl, inr, refl, sym, subst, ◌∙◌, List, [], ◌∷◌, set, Contains}
use Rattle.std.proofs.lemmas.List.Elements.{Contains-append_left}
use Rattle.chaos_core.specs.Boards.{nets_of}
use Rattle.window_words.specs.Views.{IsUnspent, count_from}
use Rattle.dirty_words.specs.declared.view.DirtyView.{DirtyView}
use Rattle.dirty_words.specs.Views.{run_of, with_drawn, with_anew}
use Rattle.dirty_words.specs.Rule.{IsThere, IsLive, SomeLive, mark_at, FliesWell, KnowsClear, HasTaken, AreTracked, KeptAt}
use Rattle.dirty_words.specs.Boards.{IsAlone}
use Rattle.dirty_words.proofs.Nets.{none_there, stays_all, stayed_all}
use Rattle.dirty_words.proofs.Live.{each_live, some_on, only_live}
use Rattle.dirty_words.proofs.Below.{below_drew, below_began}
use Rattle.dirty_words.proofs.Covering.{covered_same}
use Rattle.dirty_words.proofs.Tracking.{taken_on, found_on, left_on}
use Rattle.dirty_words.proofs.Closing.{no_other}

-- ---- a view that keeps all that is tracked, and has drawn no less
pub record IsQuiet (v w : DirtyView) : Type 0 where
  pub setting : w.base.setting ≡ v.base.setting
  pub role : w.base.role ≡ v.base.role
  pub out : w.base.out ≡ v.base.out
  pub lists : w.lists ≡ v.lists
  pub drawn : (n : ℕ) → Contains v.base.drawn n → Contains w.base.drawn n
  pub clear : w.clear ≡ v.clear
  pub found : w.found ≡ v.found
  pub taken : w.taken ≡ v.taken
  pub noted : w.noted ≡ v.noted

module _ (marks : List ℕ) (views : List DirtyView) (id : ℕ) (v w : DirtyView) (there : IsThere views id v) (live : IsLive v) (quiet : IsQuiet v w) where
  after : IsLive w
  after = subst IsUnspent (sym quiet.role) live

  in_list : (m : ℕ) (xs ys : List ℕ) → ys ≡ xs → Contains xs m → Contains ys m
  in_list m xs ys e c = subst (λ zs. Contains zs m) (sym e) c

  pub quiet_tracked : AreTracked marks views → AreTracked marks (set views id w)
  quiet_tracked t =
      let turn : (m : ℕ) → (mark_at marks m ≡ 1) ⊎ SomeLive views (HasTaken m) → (mark_at marks m ≡ 1) ⊎ SomeLive (set views id w) (HasTaken m) =
      λ m h. elim h [
        | inl e ↦ inl e
        | inr s ↦ inr (some_on (HasTaken m) views id v w there after (taken_on v w m quiet.setting quiet.drawn (in_list m v.taken w.taken quiet.taken)) s)
      ] in
      record {
        found = each_live (λ u. (m : ℕ) → Contains u.found m → (mark_at marks m ≡ 1) ⊎ SomeLive (set views id w) (HasTaken m)) views id w
            (λ j u ne at l m c. turn m (t.found j u at l m c)) (λ l m c. turn m (t.found id v there live m (in_list m w.found v.found (sym quiet.found) c)));
        traced = λ m e. elim (t.traced m e) [
          | inl s ↦ inl (some_on (λ u. Contains u.noted m) views id v w there after (in_list m v.noted w.noted quiet.noted) s)
          | inr left ↦ inr (left_on views id v w m there live after (found_on v w m quiet.role (in_list m v.found w.found quiet.found)) (in_list m w.taken v.taken (sym quiet.taken)) left)
        ];
      }

  pub quiet_clear : KnowsClear marks v → KnowsClear marks w
  quiet_clear h m c =
      let old = h m (in_list m w.clear v.clear (sym quiet.clear) c) in
      ((quiet.role ∙ old.0.0, quiet.out ∙ old.0.1), old.1)

-- ---- a number is drawn
module _ (v : DirtyView) (now marks : List ℕ) (next : ℕ) (views : List DirtyView) (k : KeptAt (run_of v) now marks next views) (id : ℕ) (there : IsThere views id v) (live : IsLive v) where
  pub drew_kept : count_from (nets_of v.base.setting) v.base.drawn ≡ 0 → KeptAt (run_of v) now marks (next + 1) (set views id (with_drawn v next))
  drew_kept none =
      let w = with_drawn v next in
      let quiet : IsQuiet v w = record { setting = refl; role = refl; out = refl; lists = refl; drawn = λ n c. Contains-append_left v.base.drawn (next ∷ []) n c; clear = refl; found = refl; taken = refl; noted = refl } in
      record {
        below = below_drew v.base.setting now next views k.below id v there live none w refl;
        whole = k.whole;
        known = each_live (λ u. u.lists ≡ v.lists) views id w (λ j u ne at l. k.known j u at l) (λ l. refl);
        fits = k.fits;
        covered = λ m lt. covered_same (run_of v) now marks views id v w m there live refl refl (k.covered m lt);
        flown = each_live (FliesWell (run_of v)) views id w (λ j u ne at l. k.flown j u at l) (λ l f e. k.flown id v there live f e);
        clear = each_live (KnowsClear marks) views id w (λ j u ne at l. k.clear j u at l) (λ l. quiet_clear marks views id v w there live quiet (k.clear id v there live));
        tracked = quiet_tracked marks views id v w there live quiet k.tracked;
      }

-- ---- the numbers begin anew
module _ (v : DirtyView) (now marks : List ℕ) (next : ℕ) (views : List DirtyView) (k : KeptAt (run_of v) now marks next views) (id : ℕ) (there : IsThere views id v) (alone : IsAlone v) where
  abbrev w' : DirtyView
  w' = with_anew v

  alive : IsLive v
  alive = subst IsUnspent (sym alone.0) tt

  dead : (P : DirtyView → Type 0) (j : ℕ) (u : DirtyView) → j ≢ id → IsThere views j u → IsLive u → P u
  dead P j u ne at l = absurd (no_other v now marks next views k id there alone j u ne at l)

  anew_tracked : AreTracked marks (set views id w')
  anew_tracked = record {
    found = each_live (λ u. (m : ℕ) → Contains u.found m → (mark_at marks m ≡ 1) ⊎ SomeLive (set views id w') (HasTaken m)) views id w'
        (dead (λ u. (m : ℕ) → Contains u.found m → (mark_at marks m ≡ 1) ⊎ SomeLive (set views id w') (HasTaken m)))
        (λ l m c.
        let old = stayed_all m v.taken v.found c in
        elim (k.tracked.found id v there alive m old.0) [
          | inl e ↦ inl e
          | inr s ↦ absurd (old.1 (only_live (HasTaken m) views id v there (no_other v now marks next views k id there alone) s).taken)
        ]);
    traced = λ m e. elim (k.tracked.traced m e) [
      | inl s ↦ inl (some_on (λ u. Contains u.noted m) views id v w' there alive (λ c. c) s)
      | inr left ↦ inr (left_on views id v w' m there alive alive (λ h. record { first = h.first; found = stays_all m v.taken v.found (left.none id v there alive) h.found }) (λ c. absurd (none_there m c)) left)
    ];
  }

  pub anew_kept : KeptAt (run_of v) now marks 0 (set views id w')
  anew_kept = record {
    below = below_began v.base.setting now next views k.below id v there alive alone.0 alone.1 w' refl;
    whole = k.whole;
    known = each_live (λ u. u.lists ≡ v.lists) views id w' (λ j u ne at l. k.known j u at l) (λ l. refl);
    fits = k.fits;
    covered = λ m lt. covered_same (run_of v) now marks views id v w' m there alive refl refl (k.covered m lt);
    flown = each_live (FliesWell (run_of v)) views id w' (λ j u ne at l. k.flown j u at l) (λ l f e. k.flown id v there alive f e);
    clear = each_live (KnowsClear marks) views id w' (λ j u ne at l. k.clear j u at l) (λ l m c. k.clear id v there alive m c);
    tracked = anew_tracked;
  }
