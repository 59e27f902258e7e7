-- Where no mark, flight or debt is left, the words are closed, without a look at them.
use Rattle.std.proofs.Common.{◌≡◌, ◌≢◌, ℕ, zero, suc, ◌+◌, ◌*◌, ◌%◌, ◌<◌, refl, sym, subst, ◌∙◌, List, [], ℤ, Contains, false, arith}
use Rattle.std.proofs.lemmas.Int.{ints}
use Rattle.std.proofs.lemmas.Option.{none-some}
use Rattle.xt_model.specs.declared.direction.Direction.{Direction}
use Rattle.xt_model.specs.declared.direction.Direction.TheVariants.{Widen, Narrow}
use Rattle.xt_meaning.specs.Barrier.{IsBoundNoFurther}
use Rattle.xt_meaning.specs.Words.{bound_in, bounds_in, onward}
use Rattle.chaos_core.specs.declared.setting.Setting.{Setting}
use Rattle.chaos_core.specs.Boards.{nets_of, Knowledge}
use Rattle.chaos_core.specs.Memories.{AreKept}
use Rattle.chaos_core.specs.Rounds.{AreClosed}
use Rattle.chaos_core.proofs.Carrying.{all_words}
use Rattle.window_words.specs.Views.{IsUnspent}
use Rattle.window_words.proofs.Alone.{not_spent}
use Rattle.dirty_words.specs.declared.view.DirtyView.{DirtyView}
use Rattle.dirty_words.specs.Views.{run_of}
use Rattle.dirty_words.specs.Rule.{IsThere, IsLive, mark_at, HasInFlight, IsPast, IsCovered, marked, owing, flying, past, KeptAt}
use Rattle.dirty_words.specs.Boards.{IsAlone, IsFree}
use Rattle.dirty_words.proofs.Nets.{none_there}
use Rattle.dirty_words.proofs.Live.{only_live}
use Rattle.dirty_words.proofs.Marks.{not_both}
use Rattle.dirty_words.proofs.Below.{others_out, words_kept, seen_here}

-- bounds of which each is no further than the other are one
pub one_bound : (way : Direction) (side : ℕ) (a b : ℤ) → IsBoundNoFurther way side a b → IsBoundNoFurther way side b a → a ≡ b
one_bound Widen zero a b h k = omega (arith, ints, h, k)
one_bound Widen (suc s) a b h k = omega (arith, ints, h, k)
one_bound Narrow zero a b h k = omega (arith, ints, h, k)
one_bound Narrow (suc s) a b h k = omega (arith, ints, h, k)

-- words of which each net is past are closed
pub all_past : (a : Setting) (now : List ℕ) → AreKept a now → ((net : ℕ) → net < nets_of a → IsPast a now net) → AreClosed a.design now
all_past a now kept each =
    let k : Knowledge = record { setting = a; home = []; seen = now; drawn = []; made = 0; late = 0; alone = false } in
    let far = all_words k k kept.seen.count each in
    record { each = λ word. one_bound a.way (word % 2) (onward a.design (bounds_in now) word) (bounds_in now word) (far word) (kept.fits word) }

module _ (v : DirtyView) (now marks : List ℕ) (next : ℕ) (views : List DirtyView) (k : KeptAt (run_of v) now marks next views) (id : ℕ) (there : IsThere views id v) (alone : IsAlone v) where
  -- no other pass is left
  pub no_other : (j : ℕ) (u : DirtyView) → j ≢ id → IsThere views j u → IsLive u → ⊥
  no_other j u ne at l = not_spent u.base.role l (others_out v.base.setting now next views k.below id v there alone.0 alone.1 j u ne at)

  -- what is seen is what the words hold
  pub seen_now : bounds_in now ≡ bounds_in v.base.seen
  seen_now = λ i w. bound_in (sym (seen_here v.base.setting now next views k.below id v there alone.0 alone.1 refl w) i)

  -- an unmarked net is past, where the pass is free
  pub clear_past : IsFree v → (net : ℕ) → net < nets_of v.base.setting → mark_at marks net ≡ 0 → IsPast v.base.setting now net
  clear_past free net inside unset = is_past (k.covered net inside) where
    is_past : IsCovered (run_of v) now marks views net → IsPast v.base.setting now net
    is_past (marked e) = absurd (not_both (mark_at marks net) unset e)
    is_past (owing s) = absurd (none_there net (subst (λ xs. Contains xs net) free.owed (only_live (λ u. Contains u.owed net) views id v there no_other s)))
    is_past (flying s) = let h = only_live (HasInFlight v.lists now net) views id v there no_other s in absurd (none-some h.flight (sym free.flight ∙ h.is))
    is_past (past p) = p

  pub past_seen : (net : ℕ) → IsPast v.base.setting now net → IsPast v.base.setting v.base.seen net
  past_seen net h =
      let a = v.base.setting in
      let P : (ℕ → ℤ) → Type 0 = λ f. (i : ℕ) → i < 8 → IsBoundNoFurther a.way (i % 2) (onward a.design f (8 * net + i)) (f (8 * net + i)) in
      subst P seen_now h

  pub all_clear : IsFree v → ((n : ℕ) → n < nets_of v.base.setting → Contains v.clear n) → AreClosed v.base.setting.design v.base.seen
  all_clear free each =
      let a = v.base.setting in
      let live : IsLive v = subst IsUnspent (sym alone.0) tt in
      let closed = all_past a now (words_kept a now next views k.below) (λ n inside. clear_past free n inside ((k.clear id v there live n (each n inside)).1)) in
      let P : (ℕ → ℤ) → Type 0 = λ f. (word : ℕ) → onward a.design f word ≡ f word in
      record { each = subst P seen_now closed.each }
