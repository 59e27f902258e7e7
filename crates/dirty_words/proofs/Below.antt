-- The rule of words without marks, under the rule of words with marks.
use Rattle.std.proofs.Common.{◌≡◌, ◌≢◌, ℕ, ◌+◌, ◌%◌, ◌<◌, refl, sym, ap, subst, ◌∙◌, List, [], ◌∷◌, ◌++◌, length, set, arith}
use Rattle.std.specs.List.{All}
use Rattle.std.proofs.lemmas.List.{same_from_push, map-set, map-append, set-append_left}
use Rattle.std.proofs.Math.Seq.{set-append_seam}
use Rattle.atomic_table.specs.Table.{State}
use Rattle.atomic_table.proofs.Lists.{at_map, set_again}
use Rattle.xt_meaning.specs.Barrier.{IsBoundNoFurther, RespectsAt}
use Rattle.xt_meaning.specs.Words.{bound_in, number_at, bounds_in}
use Rattle.chaos_core.specs.declared.setting.Setting.{Setting}
use Rattle.chaos_core.specs.Boards.{nets_of, IsSeen}
use Rattle.chaos_core.specs.Memories.{AreKept}
use Rattle.window_words.specs.declared.view.Role.TheVariants.{First, Other, Spent}
use Rattle.window_words.specs.declared.view.View.{View}
use Rattle.window_words.specs.Views.{count_from, with_seen, begun_anew, with_one_out, sent_out, with_both, spent_view}
use Rattle.window_words.specs.Rule.{IsThere as IsThereBelow, AreOf, AreBounded, AreSeen, AreDrawn, AreCounted, AreFew, IsBehind, Kept}
use Rattle.window_words.specs.Steps.{IsFound, IsWhole}
use Rattle.window_words.proofs.Alone.{few_drawn, other_spent, whole_alone}
use Rattle.window_words.proofs.Moving.{moved, seen_after}
use Rattle.window_words.proofs.Drawing.{draws_greater, drew, began}
use Rattle.window_words.proofs.Parting.{parted, joined}
use Rattle.dirty_words.specs.declared.view.DirtyView.{DirtyView}
use Rattle.dirty_words.specs.Views.{bases}
use Rattle.dirty_words.specs.Rule.{IsThere, IsLive, KeptBelow}

-- ---- the views of passes without marks
pub base_there : (views : List DirtyView) (id : ℕ) (v : DirtyView) → IsThere views id v → IsThereBelow (bases views) id v.base
base_there views id v there = at_map (λ (u : DirtyView). u.base) views id v there

base_set : (views : List DirtyView) (id : ℕ) (w : DirtyView) → bases (set views id w) ≡ set (bases views) id w.base
base_set views id w = map-set (λ (u : DirtyView). u.base) views id w

base_more : (views : List DirtyView) (w : DirtyView) → bases (views ++ w ∷ []) ≡ bases views ++ w.base ∷ []
base_more views w = map-append (λ (u : DirtyView). u.base) views (w ∷ [])

-- ---- the rule, of words that are told apart from the draw word
pub record Below (a : Setting) (now : List ℕ) (next : ℕ) (views : List View) : Type 0 where
  pub run : AreOf a views
  pub bounded : AreBounded a now
  pub seen : AreSeen a now views
  pub drawn : AreDrawn next views
  pub counted : AreCounted views
  pub few : AreFew a next views

pub below_from : (a : Setting) (now : List ℕ) (next : ℕ) (views : List View) → KeptBelow a now next views → Below a now next views
below_from a now next views k =
    let e = same_from_push now k.now next k.next k.words in
    record {
      run = k.run;
      bounded = subst (AreBounded a) (sym e.0) k.bounded;
      seen = subst (λ ws. AreSeen a ws views) (sym e.0) k.seen;
      drawn = subst (λ n. AreDrawn n views) (sym e.1) k.drawn;
      counted = k.counted;
      few = subst (λ n. AreFew a n views) (sym e.1) k.few;
    }

abbrev pub as_kept : (a : Setting) (now : List ℕ) (next : ℕ) (views : List View) → Below a now next views → KeptBelow a now next views
as_kept a now next views b = record { now = now; next = next; words = refl; run = b.run; bounded = b.bounded; seen = b.seen; drawn = b.drawn; counted = b.counted; few = b.few }

-- ---- what follows from it of one view, and what a change of one view keeps
module _ (a : Setting) (now : List ℕ) (next : ℕ) (views : List DirtyView) (k : KeptBelow a now next (bases views)) where
  abbrev below' : Below a now next (bases views)
  below' = below_from a now next (bases views) k

  abbrev kept' : KeptBelow a now next (bases views)
  kept' = as_kept a now next (bases views) below'

  abbrev state' : State (Unit {0}) View
  state' = record { words = now ++ next ∷ []; homes = []; views = bases views }

  pub words_kept : AreKept a now
  words_kept = below'.bounded

  pub next_few : next < nets_of a + 66
  next_few = let h = few_drawn a state' kept' in omega (arith, h)

  module _ (id : ℕ) (v : DirtyView) (there : IsThere views id v) where
    abbrev at' : IsThereBelow (bases views) id v.base
    at' = base_there views id v there

    pub below_same : (w : DirtyView) → w.base ≡ v.base → KeptBelow a now next (bases (set views id w))
    below_same w e =
        let is : bases (set views id w) ≡ bases views = base_set views id w ∙ (ap (λ (b : View). set (bases views) id b) e ∙ set_again (bases views) id v.base at') in
        subst (KeptBelow a now next) (sym is) k

    -- a change of the view alone, or with a change of words
    changed : (w : DirtyView) (b : View) (words later : List ℕ) (more : ℕ) → w.base ≡ b → words ≡ later ++ more ∷ [] → Kept a (record { words = words; homes = []; views = set (bases views) id b })
        → KeptBelow a later more (bases (set views id w))
    changed w b words later more e is h =
        let P : List ℕ → Type 0 = λ ws. Kept a (record { words = ws; homes = []; views = set (bases views) id b }) in
        let views' : set (bases views) id b ≡ bases (set views id w) = ap (λ (c : View). set (bases views) id c) (sym e) ∙ sym (base_set views id w) in
        subst (KeptBelow a later more) views' (subst P is h)

    module _ (live : IsLive v) where
      pub base_run : v.base.setting ≡ a
      base_run = below'.run id v.base at' live

      pub base_behind : IsBehind a now v.base
      base_behind = below'.seen.behind id v.base at' live

      pub number_found : (i : ℕ) → IsFound v.base i (number_at now i)
      number_found i =
          let P : Setting → Type 0 = λ b. RespectsAt b.way b.design i (bounds_in now i) × IsBoundNoFurther b.way (i % 2) (bounds_in v.base.seen i) (bounds_in now i) in
          let h = subst P (sym base_run) (below'.bounded.seen.respects i, base_behind.behind i) in
          record { respects = h.0; past = h.1 }

      module _ (i : ℕ) (inside : i < length now) (x made : ℕ) (bounded : AreKept a (set now i x)) (on : IsBoundNoFurther a.way (i % 2) (bounds_in now i) (bound_in x)) where
        pub below_moved : (w : DirtyView) → w.base ≡ with_seen v.base i x made → KeptBelow a (set now i x) next (bases (set views id w))
        below_moved w e =
            changed w (with_seen v.base i x made) (set (now ++ next ∷ []) i x) (set now i x) next e (set-append_left now (next ∷ []) i x inside)
            (moved a state' kept' id v.base at' live i inside x made bounded on)

        pub below_seen : IsSeen a (set v.base.seen i x)
        below_seen = seen_after a state' kept' id v.base at' live i inside x made bounded on

      pub below_greater : All (λ x. x < next) v.base.drawn
      below_greater = draws_greater a state' kept' id v.base at' live

      pub below_drew : count_from (nets_of a) v.base.drawn ≡ 0 → (w : DirtyView) → w.base ≡ record (v.base) { drawn = v.base.drawn ++ next ∷ [] } → KeptBelow a now (next + 1) (bases (set views id w))
      below_drew none w e =
          changed w (record (v.base) { drawn = v.base.drawn ++ next ∷ [] }) (set (now ++ next ∷ []) (length now) (next + 1)) now (next + 1) e (set-append_seam now next [] (next + 1))
          (drew a state' kept' id v.base at' live none)

      pub below_began : v.base.role ≡ First → v.base.out ≡ 0 → (w : DirtyView) → w.base ≡ begun_anew v.base → KeptBelow a now 0 (bases (set views id w))
      below_began first none w e =
          changed w (begun_anew v.base) (set (now ++ next ∷ []) (length now) 0) now 0 e (set-append_seam now next [] 0)
          (began a state' kept' id v.base at' live first none)

    pub below_parted : v.base.role ≡ First → v.base.split < 64 → (w u : DirtyView) → w.base ≡ with_one_out v.base → u.base ≡ sent_out v.base → KeptBelow a now next (bases (set views id w ++ u ∷ []))
    below_parted first few w u e g =
        let h = parted a state' kept' id v.base at' first few in
        let is : set (bases views) id (with_one_out v.base) ++ sent_out v.base ∷ [] ≡ bases (set views id w ++ u ∷ []) =
        ap (λ (b : View). set (bases views) id b ++ sent_out v.base ∷ []) (sym e) ∙ (ap (λ (b : View). set (bases views) id w.base ++ b ∷ []) (sym g)
        ∙ (ap (λ (bs : List View). bs ++ u.base ∷ []) (sym (base_set views id w)) ∙ sym (base_more (set views id w) u))) in
        subst (KeptBelow a now next) is h

    module _ (first : v.base.role ≡ First) where
      pub others_out : v.base.out ≡ 0 → (j : ℕ) (u : DirtyView) → j ≢ id → IsThere views j u → u.base.role ≡ Spent
      others_out none j u ne at = other_spent a state' kept' id v.base at' first none j u.base ne (base_there views j u at)

      pub whole_here : v.base.out ≡ 0 → (word : ℕ) → v.base.setting ≡ a → IsWhole v.base word (number_at now word)
      whole_here none word same = whole_alone a state' kept' id v.base at' first none word same

      pub seen_here : v.base.out ≡ 0 → v.base.setting ≡ a → (word : ℕ) → number_at v.base.seen word ≡ number_at now word
      seen_here none same word = sym ((whole_here none word same).exact)

      pub below_joined : (other : ℕ) (w both spent : DirtyView) → other ≢ id → IsThere (set views id both) other w → w.base.role ≡ Other → both.base ≡ with_both v.base w.base → spent.base ≡ spent_view
          → KeptBelow a now next (bases (set (set views id both) other spent))
      below_joined other w both spent ne second role e g =
          let b = with_both v.base w.base in
          let is : bases (set views id both) ≡ set (bases views) id b = base_set views id both ∙ ap (λ (c : View). set (bases views) id c) e in
          let at2 : IsThereBelow (set (bases views) id b) other w.base = subst (λ bs. IsThereBelow bs other w.base) is (base_there (set views id both) other w second) in
          let h = joined a state' kept' id v.base at' first other w.base ne at2 role in
          let end : set (set (bases views) id b) other spent_view ≡ bases (set (set views id both) other spent) =
          ap (λ (c : View). set (set (bases views) id b) other c) (sym g) ∙ (ap (λ (bs : List View). set bs other spent.base) (sym is) ∙ sym (base_set (set views id both) other spent)) in
          subst (KeptBelow a now next) end h
