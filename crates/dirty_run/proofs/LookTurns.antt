-- A look, mark by mark.
use Rattle.std.proofs.Common.{◌≡◌, ◌⊎◌, ℕ, ◌+◌, ◌<◌, Bool, true, false, inl, inr, refl, sym, ap, subst, ◌∙◌, [], ◌∷◌, ◌++◌, Contains, arith}
use Rattle.std.specs.Prelude.{IsTrue, IsFalse}
use Rattle.std.proofs.lemmas.Bool.{cases_lt}
use Rattle.std.proofs.lemmas.List.Elements.{Contains-append_left, Contains-push, Contains-push_cases}
use Rattle.xt_meaning.specs.Words.{bounds_in, onward, AreNoFurther}
use Rattle.chaos_core.specs.Boards.{nets_of, IsSeen}
use Rattle.chaos_core.specs.Rounds.{AreClosed}
use Rattle.chaos_core.proofs.NoNets.{nothing_closed}
use Rattle.window_words.specs.declared.view.View.{View}
use Rattle.window_words.specs.Views.{times}
use Rattle.window_words.specs.Rule.{once_below}
use Rattle.window_words.specs.Boards.{IsAlone as IsAloneBelow}
use Rattle.window_words.specs.Steps.{IsRested}
use Rattle.dirty_words.specs.declared.view.DirtyView.{DirtyView}
use Rattle.dirty_words.specs.Views.{without, with_found, with_clear}
use Rattle.dirty_words.specs.Rule.{IsPast}
use Rattle.dirty_words.specs.Boards.{IsAlone, IsFree}
use Rattle.dirty_words.specs.Steps.{Looked}
use Rattle.dirty_words.proofs.Nets.{stays, stayed}
use Rattle.dirty_run.specs.Turns.{HasLooked}

none_true : IsTrue false → ⊥
none_true h = cc

none_false : IsFalse true → ⊥
none_false h = cc

pub none_looked : (v : DirtyView) → HasLooked v 0 false v
none_looked v = record {
  clear = v.clear;
  found = v.found;
  taken = v.taken;
  noted = v.noted;
  after = refl;
  each = λ net h. absurd (omega (arith, h));
  quiet = λ net h. absurd (omega (arith, h));
  later = λ net h. (λ c. c, λ c. c, λ c. c);
  why = λ lie. absurd (none_true lie);
  none = λ _ net h. absurd (omega (arith, h));
}

module _ (v : DirtyView) (k : ℕ) (any : Bool) (w x : DirtyView) (at : HasLooked v k any w) (free : IsFree v) where
  abbrev w' : DirtyView
  w' = record v { clear = at.clear; found = at.found; taken = at.taken; noted = at.noted }

  -- the mark of net k is set
  pub looked_set : Looked w k 1 x → HasLooked v (k + 1) true x
  looked_set step = record {
    clear = without k at.clear;
    found = at.found ++ k ∷ [];
    taken = without k at.taken;
    noted = without k at.noted;
    after = step.found refl ∙ ap (λ (y : DirtyView). with_found y k) at.after;
    each = λ net lt. elim (cases_lt net k) [
      | inl p ↦ elim (at.each net p) [
        | inl h ↦ inl (Contains-append_left at.found (k ∷ []) net h.0, λ c. h.1 ((stayed k net at.taken c).0))
        | inr h ↦ inr (stays k net at.clear (λ e. omega (arith, p, e)) h.0, h.1)
      ]
      | inr p ↦
          let e : k ≡ net = omega (arith, lt, p) in
          inl (subst (Contains (at.found ++ k ∷ [])) e (Contains-push at.found k), λ c. (stayed k net at.taken c).1 (sym e))
    ];
    quiet = λ net lt c.
        let old = stayed k net at.noted c in
        elim (cases_lt net k) [
          | inl p ↦ at.quiet net p old.0
          | inr p ↦ old.1 (omega (arith, lt, p))
        ];
    later = λ net far.
        let h = at.later net (omega (arith, far)) in (
          λ c. h.0 ((stayed k net at.noted c).0),
          λ c. elim (Contains-push_cases at.found k net c) [ inl old ↦ h.1 old | inr e ↦ absurd (omega (arith, far, e)) ],
          λ c. stays k net at.taken (λ e. omega (arith, far, e)) (h.2 c),
        );
    why = λ _.
        let P : DirtyView → Type 0 = λ y. Contains y.noted k ⊎ (Contains y.found k × (Contains y.taken k → ⊥)) in
        let h = at.later k (omega arith) in
        let one = subst P at.after (step.why refl) in
        (k, omega arith, elim one [ inl n ↦ inl (h.0 n) | inr f ↦ inr (h.1 f.0, λ c. f.1 (h.2 c)) ]);
    none = λ lie. absurd (none_false lie);
  }

  -- it is not
  pub looked_unset : Looked w k 0 x → HasLooked v (k + 1) any x
  looked_unset step = record {
    clear = at.clear ++ k ∷ [];
    found = without k at.found;
    taken = at.taken;
    noted = without k at.noted;
    after = step.clear refl ∙ ap (λ (y : DirtyView). with_clear y k) at.after;
    each = λ net lt. elim (cases_lt net k) [
      | inl p ↦ elim (at.each net p) [
        | inl h ↦ inl (stays k net at.found (λ e. omega (arith, p, e)) h.0, h.1)
        | inr h ↦ inr (Contains-append_left at.clear (k ∷ []) net h.0, h.1)
      ]
      | inr p ↦
          let e : k ≡ net = omega (arith, lt, p) in
          let P : DirtyView → Type 0 = λ y. IsPast y.base.setting y.base.seen k in
          let loose : IsFree w = subst IsFree (sym at.after) (record { flight = free.flight; owed = free.owed }) in
          let past = subst P at.after (step.past refl loose) in
          inr (subst (Contains (at.clear ++ k ∷ [])) e (Contains-push at.clear k), subst (IsPast v.base.setting v.base.seen) e past)
    ];
    quiet = λ net lt c.
        let old = stayed k net at.noted c in
        elim (cases_lt net k) [
          | inl p ↦ at.quiet net p old.0
          | inr p ↦ old.1 (omega (arith, lt, p))
        ];
    later = λ net far.
        let h = at.later net (omega (arith, far)) in (
          λ c. h.0 ((stayed k net at.noted c).0),
          λ c. h.1 ((stayed k net at.found c).0),
          λ c. h.2 c,
        );
    why = λ did. let h = at.why did in (h.0, (let lt = h.1 in omega (arith, lt)), h.2);
    none = λ lie net lt. elim (cases_lt net k) [
      | inl p ↦ Contains-append_left at.clear (k ∷ []) net (at.none lie net p)
      | inr p ↦ subst (Contains (at.clear ++ k ∷ [])) (let e : k ≡ net = omega (arith, lt, p) in e) (Contains-push at.clear k)
    ];
  }

-- ---- what a look tells besides
module _ (v : DirtyView) (k : ℕ) (any : Bool) (w : DirtyView) (at : HasLooked v k any w) where
  base_is : w.base ≡ v.base
  base_is = ap (λ (x : DirtyView). x.base) at.after

  pub looked_alone : IsAlone v → IsAlone w
  looked_alone alone = subst (λ (b : View). IsAloneBelow b) (sym base_is) alone

  pub looked_free : IsFree v → IsFree w
  looked_free free = subst IsFree (sym at.after) (record { flight = free.flight; owed = free.owed })

  pub looked_below : k < nets_of v.base.setting → k < nets_of w.base.setting
  looked_below lt = subst (λ (b : View). k < nets_of b.setting) (sym base_is) lt

  pub looked_rested : (mark : ℕ) (x : DirtyView) → IsSeen v.base.setting v.base.seen → Looked w k mark x → IsRested v.base
  looked_rested mark x seen step = record {
    kept = record { seen = seen; fits = subst (λ (b : View). AreNoFurther b.setting.way (bounds_in b.seen) (onward b.setting.design (bounds_in b.seen))) base_is step.fits };
    next = step.next;
    drawn = subst (λ (b : View). (y : ℕ) → times y b.drawn ≡ once_below step.next y) base_is step.drawn;
  }

  -- closed words, where no mark is left
  pub looked_closed : IsFalse any → k ≡ nets_of v.base.setting → (((n : ℕ) → n < nets_of w.base.setting → Contains w.clear n) → AreClosed w.base.setting.design w.base.seen) → AreClosed v.base.setting.design v.base.seen
  looked_closed none all closing =
      let clear : w.clear ≡ at.clear = ap (λ (x : DirtyView). x.clear) at.after in
      let nets : nets_of w.base.setting ≡ nets_of v.base.setting = ap (λ (b : View). nets_of b.setting) base_is in
      let here = closing (λ n lt. subst (λ xs. Contains xs n) (sym clear) (at.none none n (omega (arith, lt, nets, all)))) in
      subst (λ (b : View). AreClosed b.setting.design b.seen) base_is here

  -- also where there is no net
  pub none_closed : IsSeen v.base.setting v.base.seen → IsFalse any → k ≡ nets_of v.base.setting → (0 < k → ((n : ℕ) → n < nets_of w.base.setting → Contains w.clear n) → AreClosed w.base.setting.design w.base.seen) → AreClosed v.base.setting.design v.base.seen
  none_closed seen none all closing = elim (cases_lt 0 k) [
    | inl some ↦ looked_closed none all (closing some)
    | inr few ↦ nothing_closed v.base.setting.design v.base.seen seen.count (omega (arith, few, all))
  ]
