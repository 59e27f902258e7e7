-- A pass is split off, and a pass is joined: the rule is kept.
use Rattle.std.proofs.Common.{◌≡◌, ◌≢◌, ◌⊎◌, ℕ, ◌<◌, inl, inr, refl, sym, ap, subst, ◌∙◌, List, [], ◌∷◌, ◌++◌, set, Contains, arith}
use Rattle.std.proofs.lemmas.Option.{none-some}
use Rattle.std.proofs.lemmas.List.Elements.{Contains-append_left, Contains-append_right, Contains-append_cases}
use Rattle.atomic_table.proofs.Lists.{set_else}
use Rattle.chaos_core.specs.Boards.{nets_of}
use Rattle.window_words.specs.declared.view.Role.{Role}
use Rattle.window_words.specs.declared.view.Role.TheVariants.{First, Other, Spent}
use Rattle.window_words.specs.Views.{IsUnspent, other_count}
use Rattle.window_words.proofs.Alone.{not_spent}
use Rattle.dirty_words.specs.declared.view.DirtyView.{DirtyView}
use Rattle.dirty_words.specs.Views.{run_of, with_pass_out, pass_sent, with_joined, spent_pass}
use Rattle.dirty_words.specs.Rule.{IsThere, IsLive, SomeLive, EachLive, mark_at, IsCovered, marked, FliesWell, KnowsClear, HasTaken, HasFound, AreTracked, KeptAt}
use Rattle.dirty_words.specs.Boards.{IsFree}
use Rattle.dirty_words.proofs.Nets.{none_there}
use Rattle.dirty_words.proofs.Live.{each_live, each_more, some_on, some_more, some_joined}
use Rattle.dirty_words.proofs.Below.{below_parted, below_joined, others_out, base_run}
use Rattle.dirty_words.proofs.Covering.{covered_here, covered_same, covered_more}
use Rattle.dirty_words.proofs.Tracking.{taken_on, found_on, left_on}

-- ---- a pass is split off
module _ (v : DirtyView) (now marks : List ℕ) (next : ℕ) (views : List DirtyView) (k : KeptAt (run_of v) now marks next views) (id : ℕ) (there : IsThere views id v) (first : v.base.role ≡ First) where
  abbrev w' : DirtyView
  w' = with_pass_out v

  abbrev u' : DirtyView
  u' = pass_sent v

  abbrev parts' : List DirtyView
  parts' = set views id w' ++ u' ∷ []

  live : IsLive v
  live = subst IsUnspent (sym first) tt

  has_on : (P : DirtyView → Type 0) → (P v → P w') → SomeLive views P → SomeLive parts' P
  has_on P on s = some_more P (set views id w') u' (some_on P views id v w' there live on s)

  parted_tracked : AreTracked marks parts'
  parted_tracked =
      let turn : (m : ℕ) → (mark_at marks m ≡ 1) ⊎ SomeLive views (HasTaken m) → (mark_at marks m ≡ 1) ⊎ SomeLive parts' (HasTaken m) =
      λ m h. elim h [
        | inl e ↦ inl e
        | inr s ↦ inr (has_on (HasTaken m) (taken_on v w' m refl (λ n c. c) (λ c. c)) s)
      ] in
      let P : DirtyView → Type 0 = λ u. (m : ℕ) → Contains u.found m → (mark_at marks m ≡ 1) ⊎ SomeLive parts' (HasTaken m) in
      record {
        found = each_more P (set views id w') u'
            (each_live P views id w' (λ j u ne at l m c. turn m (k.tracked.found j u at l m c)) (λ l m c. turn m (k.tracked.found id v there live m c)))
            (λ l m c. turn m (k.tracked.found id v there live m c));
        traced = λ m e. elim (k.tracked.traced m e) [
          | inl s ↦ inl (has_on (λ u. Contains u.noted m) (λ c. c) s)
          | inr left ↦
              let after = left_on views id v w' m there live live (found_on v w' m refl (λ c. c)) (λ c. c) left in
              inr (record {
                found = some_more (HasFound m) (set views id w') u' after.found;
                none = each_more (λ u. Contains u.taken m → ⊥) (set views id w') u' after.none (λ l c. none_there m c);
              })
        ];
      }

  pub parted_kept : v.base.split < 64 → KeptAt (run_of v) now marks next parts'
  parted_kept few = record {
    below = below_parted v.base.setting now next views k.below id v there first few w' u' refl refl;
    whole = k.whole;
    known = each_more (λ u. u.lists ≡ v.lists) (set views id w') u' (each_live (λ u. u.lists ≡ v.lists) views id w' (λ j u ne at l. k.known j u at l) (λ l. refl)) (λ l. refl);
    fits = k.fits;
    covered = λ m lt. covered_more (run_of v) now marks (set views id w') u' m (covered_same (run_of v) now marks views id v w' m there live refl refl (k.covered m lt));
    flown = each_more (FliesWell (run_of v)) (set views id w') u' (each_live (FliesWell (run_of v)) views id w' (λ j u ne at l. k.flown j u at l) (λ l f e. k.flown id v there live f e))
        (λ l f e. absurd (none-some f e));
    clear = each_more (KnowsClear marks) (set views id w') u' (each_live (KnowsClear marks) views id w' (λ j u ne at l. k.clear j u at l) (λ l m c. absurd (none_there m c))) (λ l m c. absurd (none_there m c));
    tracked = parted_tracked;
  }

-- ---- a pass is joined
not_first : (r : Role) → r ≡ Other → r ≡ First → ⊥
not_first First e h = let q : 0 ≡ 1 = ap other_count e in omega (arith, q)
not_first Other e h = let q : 1 ≡ 0 = ap other_count h in omega (arith, q)
not_first Spent e h = let q : 0 ≡ 1 = ap other_count e in omega (arith, q)

module _ (v : DirtyView) (now marks : List ℕ) (next : ℕ) (views : List DirtyView) (k : KeptAt (run_of v) now marks next views) (id : ℕ) (there : IsThere views id v) (first : v.base.role ≡ First)
    (other : ℕ) (w : DirtyView) (ne : other ≢ id) (second : IsThere (set views id (with_joined v w)) other w) (role : w.base.role ≡ Other) (own : IsFree v) (free : IsFree w) where
  abbrev both' : DirtyView
  both' = with_joined v w

  abbrev ends' : List DirtyView
  ends' = set (set views id both') other spent_pass

  second_there : IsThere views other w
  second_there = sym (set_else views id other both' ne) ∙ second

  first_live : IsLive v
  first_live = subst IsUnspent (sym first) tt

  other_live : IsLive w
  other_live = subst IsUnspent (sym role) tt

  same_run : w.base.setting ≡ v.base.setting
  same_run = base_run v.base.setting now next views k.below other w second_there other_live

  has_joined : (P : DirtyView → Type 0) → (P v → P both') → (P w → P both') → SomeLive views P → SomeLive ends' P
  has_joined P one two s = some_joined P views id other v w both' spent_pass ne there second first_live one two s

  -- what holds of all live views before, and of both, holds of all after
  each_joined : (P : DirtyView → Type 0) → ((j : ℕ) (u : DirtyView) → IsThere views j u → IsLive u → P u) → P both' → EachLive ends' P
  each_joined P old own = each_live P (set views id both') other spent_pass (λ j u apart at l. each_live P views id both' (λ i x n t live. old i x t live) (λ _. own) j u at l) (λ l. absurd l)

  took_both : (m : ℕ) → SomeLive views (HasTaken m) → SomeLive ends' (HasTaken m)
  took_both m s =
      has_joined (HasTaken m)
      (taken_on v both' m refl (λ n c. Contains-append_left v.base.drawn w.base.drawn n c) (λ c. Contains-append_left v.taken w.taken m c))
      (taken_on w both' m (sym same_run) (λ n c. Contains-append_right v.base.drawn w.base.drawn n c) (λ c. Contains-append_right v.taken w.taken m c))
      s

  joined_tracked : AreTracked marks ends'
  joined_tracked =
      let turn : (m : ℕ) → (mark_at marks m ≡ 1) ⊎ SomeLive views (HasTaken m) → (mark_at marks m ≡ 1) ⊎ SomeLive ends' (HasTaken m) =
      λ m h. elim h [ inl e ↦ inl e | inr s ↦ inr (took_both m s) ] in
      record {
        found = each_joined (λ u. (m : ℕ) → Contains u.found m → (mark_at marks m ≡ 1) ⊎ SomeLive ends' (HasTaken m)) (λ j u at l m c. turn m (k.tracked.found j u at l m c))
            (λ m c. turn m (k.tracked.found id v there first_live m c));
        traced = λ m e. elim (k.tracked.traced m e) [
          | inl s ↦ inl (has_joined (λ u. Contains u.noted m) (λ c. Contains-append_left v.noted w.noted m c) (λ c. Contains-append_right v.noted w.noted m c) s)
          | inr left ↦ inr (record {
            found = has_joined (HasFound m) (found_on v both' m refl (λ c. c)) (λ h. absurd (not_first w.base.role role h.first)) left.found;
            none = each_joined (λ u. Contains u.taken m → ⊥) (λ j u at l. left.none j u at l) (λ c. elim (Contains-append_cases v.taken w.taken m c) [
              | inl old ↦ left.none id v there first_live old
              | inr new ↦ left.none other w second_there other_live new
            ]);
          })
        ];
      }

  covers : (m : ℕ) → m < nets_of v.base.setting → IsCovered (run_of v) now marks ends' m
  covers m lt =
      let one = covered_same (run_of v) now marks views id v both' m there first_live refl refl (k.covered m lt) in
      covered_here (run_of v) now marks marks (set views id both') other w spent_pass m second marked
      (λ c. absurd (none_there m (subst (λ xs. Contains xs m) free.owed c)))
      (λ h. absurd (none-some h.flight (sym free.flight ∙ h.is)))
      one

  -- while another pass is out, the first knows of no unmarked net
  none_clear : (m : ℕ) → Contains v.clear m → ⊥
  none_clear m c =
      let h = k.clear id v there first_live m c in
      not_spent w.base.role other_live (others_out v.base.setting now next views k.below id v there h.0.0 h.0.1 other w ne second_there)

  pub joined_kept : KeptAt (run_of v) now marks next ends'
  joined_kept = record {
    below = below_joined v.base.setting now next views k.below id v there first other w both' spent_pass ne second role refl refl;
    whole = k.whole;
    known = each_joined (λ u. u.lists ≡ v.lists) (λ j u at l. k.known j u at l) refl;
    fits = k.fits;
    covered = covers;
    flown = each_joined (FliesWell (run_of v)) (λ j u at l. k.flown j u at l) (λ f e. absurd (none-some f (sym own.flight ∙ e)));
    clear = each_joined (KnowsClear marks) (λ j u at l. k.clear j u at l) (λ m c. absurd (none_clear m c));
    tracked = joined_tracked;
  }
