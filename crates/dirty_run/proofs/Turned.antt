-- A worker's turn, net by net; and the turns of several, joined.
use Rattle.std.proofs.Common.{◌≡◌, ℕ, ◌+◌, ◌*◌, ◌%◌, ◌<◌, ◌≤◌, nat_lt, true, false, inl, inr, refl, sym, ap, subst, ◌∙◌, List, [], ◌∷◌, ◌++◌, length, Contains, Some, None, arith}
use Rattle.std.specs.Prelude.{slice_index}
use Rattle.std.proofs.lemmas.Bool.Decides.{nat_tests}
use Rattle.std.proofs.lemmas.List.Elements.{Contains-append_left, Contains-push, Contains-push_cases}
use Rattle.xt_model.specs.declared.net.NetId.{NetId}
use Rattle.xt_model.specs.Parts.{Parts}
use Rattle.xt_model.specs.Levels.{IsOrder}
use Rattle.xt_meaning.specs.Barrier.{IsBoundNoFurther}
use Rattle.xt_meaning.specs.Words.{bounds_in, onward, AreNoFurther}
use Rattle.xt_meaning.proofs.Steps.{bound_trans}
use Rattle.chaos_core.specs.declared.setting.Setting.{Setting}
use Rattle.chaos_core.specs.Boards.{nets_of, IsSeen}
use Rattle.chaos_core.specs.Runs.{count_below}
use Rattle.chaos_core.proofs.Places.{order_there}
use Rattle.chaos_core.proofs.Running.{above, above_at_most, above_more}
use Rattle.chaos_core.proofs.Stages.{one_order}
use Rattle.chaos_core.proofs.Sight.{are_refl, are_trans, onward_mono}
use Rattle.window_words.specs.Views.{count_from}
use Rattle.window_words.specs.Boards.{late_of}
use Rattle.window_words.proofs.Views.{count_from_both}
use Rattle.window_words.proofs.Drawn.{count_both}
use Rattle.dirty_words.specs.declared.view.DirtyView.{DirtyView}
use Rattle.dirty_words.specs.Views.{with_drawn}
use Rattle.dirty_words.specs.Boards.{IsFree}
use Rattle.dirty_words.specs.Steps.{CanTake, Drew}
use Rattle.dirty_words.proofs.Tracking.{one_place}
use Rattle.dirty_run.specs.Visits.{with_base, HasMoved, HasPassed, HasVisited}
use Rattle.dirty_run.specs.Turns.{HasTurned, HasRun, IsPlace, HasDrawnNext}
use Rattle.dirty_run.proofs.Visiting.{moved_on, moved_before}

pub none_turned : (order : List ℕ) (v : DirtyView) → IsSeen v.base.setting v.base.seen → v.base.drawn ≡ [] → v.taken ≡ [] → HasTurned order v v
none_turned order v seen none taken = record {
  seen = v.base.seen;
  drawn = v.base.drawn;
  made = v.base.made;
  clear = v.clear;
  taken = v.taken;
  noted = v.noted;
  missed = v.missed;
  after = refl;
  sound = seen;
  onward = are_refl v.base.setting.way (bounds_in v.base.seen);
  visited = λ n c lt. absurd (empty n (subst (λ xs. Contains xs n) none c));
  places = λ m c. inl c;
  why = inl refl;
  rose = omega arith;
  most = omega arith;
}
  where
    empty : (n : ℕ) → Contains [] n → ⊥
    empty n c = let k = c.1 in omega (arith, k)

-- what was passed stays passed
passed_on : (v : DirtyView) (xs ys : List ℕ) (net : ℕ) → AreNoFurther v.base.setting.way (bounds_in xs) (bounds_in ys) → HasPassed v xs net → HasPassed v ys net
passed_on v xs ys net on h i lt =
    let a = v.base.setting in
    let w = 8 * net + i in
    let par : w % 2 ≡ i % 2 = omega arith in
    bound_trans a.way (i % 2) (onward a.design (bounds_in v.base.seen) w) (bounds_in xs w) (bounds_in ys w) (h i lt) (subst (λ s. IsBoundNoFurther a.way s (bounds_in xs w) (bounds_in ys w)) par (on w))

module _ (order : List ℕ) (v w w1 w2 : DirtyView) (number net : ℕ) (t : HasTurned order v w) (drew : Drew w number w1) (below : number < nets_of v.base.setting) (place : slice_index order number ≡ net) (vis : HasVisited w1 net w2) where
  abbrev turned' : DirtyView
  turned' = record v { base = record (v.base) { seen = t.seen; drawn = t.drawn; made = t.made }; clear = t.clear; taken = t.taken; noted = t.noted; missed = t.missed }

  w1_is : w1 ≡ with_drawn turned' number
  w1_is = drew.after ∙ ap (λ (x : DirtyView). with_drawn x number) t.after

  on : AreNoFurther v.base.setting.way (bounds_in t.seen) (bounds_in vis.seen)
  on = subst (λ (x : DirtyView). AreNoFurther x.base.setting.way (bounds_in x.base.seen) (bounds_in vis.seen)) w1_is vis.onward

  taken_is : w1.taken ≡ t.taken
  taken_is = ap (λ (x : DirtyView). x.taken) w1_is

  found_is : w1.found ≡ v.found
  found_is = ap (λ (x : DirtyView). x.found) w1_is

  passed_first : HasPassed w1 vis.seen net → HasPassed v vis.seen net
  passed_first h i lt =
      let a = v.base.setting in
      let x = 8 * net + i in
      let par : x % 2 ≡ i % 2 = omega arith in
      let P : DirtyView → Type 0 = λ y. IsBoundNoFurther y.base.setting.way (i % 2) (onward y.base.setting.design (bounds_in y.base.seen) x) (bounds_in vis.seen x) in
      let far = subst P w1_is (h i lt) in
      let mono = onward_mono a.way a.design (bounds_in v.base.seen) (bounds_in t.seen) t.sound.sound t.onward x in
      bound_trans a.way (i % 2) (onward a.design (bounds_in v.base.seen) x) (onward a.design (bounds_in t.seen) x) (bounds_in vis.seen x)
      (subst (λ s. IsBoundNoFurther a.way s (onward a.design (bounds_in v.base.seen) x) (onward a.design (bounds_in t.seen) x)) par mono) far

  one_below : count_below (nets_of v.base.setting) (number ∷ []) ≡ 1
  one_below = let k : nat_lt number (nets_of v.base.setting) ≡ true = grind (arith, nat_tests) in rw k refl

  noted_is : w1.noted ≡ t.noted
  noted_is = ap (λ (x : DirtyView). x.noted) w1_is

  pub turned_more : HasTurned order v w2
  turned_more =
      let way = v.base.setting.way in
      let made : w1.base.made ≡ t.made = ap (λ (x : DirtyView). x.base.made) w1_is in
      let rose = vis.rose in
      let most = vis.most in
      let was = t.rose in
      let had = t.most in
      let count = count_both (nets_of v.base.setting) t.drawn (number ∷ []) in
      let one = one_below in
      record {
        seen = vis.seen;
        drawn = t.drawn ++ number ∷ [];
        made = vis.made;
        clear = vis.clear;
        taken = t.taken ++ net ∷ [];
        noted = vis.noted;
        missed = vis.missed;
        after = vis.after ∙ ap (λ (x : DirtyView). record x { base = with_base x vis.seen vis.made; clear = vis.clear; taken = x.taken ++ net ∷ []; noted = vis.noted; missed = vis.missed }) w1_is;
        sound = subst (λ (x : DirtyView). IsSeen x.base.setting vis.seen) w1_is vis.sound;
        onward = are_trans way (bounds_in v.base.seen) (bounds_in t.seen) (bounds_in vis.seen) t.onward on;
        visited = λ n c lt. elim (Contains-push_cases t.drawn number n c) [
          | inl old ↦
              let h = t.visited n old lt in
              (Contains-append_left t.taken (net ∷ []) (slice_index order n) h.0, λ f. passed_on v t.seen vis.seen (slice_index order n) on (h.1 f))
          | inr e ↦
              let is : net ≡ slice_index order n = sym place ∙ ap (slice_index order) e in (
                subst (Contains (t.taken ++ net ∷ [])) is (Contains-push t.taken net),
                λ f. subst (HasPassed v vis.seen) is (passed_first (vis.passed (subst (λ xs. Contains xs net) (sym found_is) (subst (Contains v.found) (sym is) f)))),
              )
        ];
        places = λ m c. elim (Contains-push_cases t.taken net m c) [
          | inl old ↦ elim (t.places m old) [
            | inl was ↦ inl was
            | inr p ↦ inr (p.0, Contains-append_left t.drawn (number ∷ []) p.0 p.1, p.2, p.3)
          ]
          | inr e ↦ inr (number, Contains-push t.drawn number, below, place ∙ e)
        ];
        why = elim vis.why [
          | inl same ↦ elim t.why [
            | inl old ↦ inl (same ∙ (noted_is ∙ old))
            | inr m ↦ inr (moved_on way v.base.seen t.seen vis.seen t.onward on m)
          ]
          | inr m ↦ inr (moved_before way v.base.seen t.seen vis.seen t.onward on (subst (λ (x : DirtyView). HasMoved x.base.seen vis.seen) w1_is m))
        ];
        rose = omega (arith, made, rose, was);
        most = omega (arith, made, most, had, count, one);
      }

-- the last number drawn is no place
pub turned_last : (order : List ℕ) (v w w1 : DirtyView) (number : ℕ) → HasTurned order v w → Drew w number w1 → nets_of v.base.setting ≤ number → HasRun order v w1
turned_last order v w w1 number t drew past =
    let none : count_below (nets_of v.base.setting) (number ∷ []) ≡ 0 = let k : nat_lt number (nets_of v.base.setting) ≡ false = grind (arith, nat_tests) in rw k refl in
    let count = count_both (nets_of v.base.setting) t.drawn (number ∷ []) in
    let had = t.most in
    let turned : HasTurned order v w1 = record {
      seen = t.seen;
      drawn = t.drawn ++ number ∷ [];
      made = t.made;
      clear = t.clear;
      taken = t.taken;
      noted = t.noted;
      missed = t.missed;
      after = drew.after ∙ ap (λ (x : DirtyView). with_drawn x number) t.after;
      sound = t.sound;
      onward = t.onward;
      visited = λ n c lt. elim (Contains-push_cases t.drawn number n c) [
        | inl old ↦ t.visited n old lt
        | inr e ↦ absurd (omega (arith, e, lt, past))
      ];
      places = λ m c. elim (t.places m c) [ inl was ↦ inl was | inr p ↦ inr (p.0, Contains-append_left t.drawn (number ∷ []) p.0 p.1, p.2, p.3) ];
      why = t.why;
      rose = t.rose;
      most = omega (arith, count, had, none);
    } in
    record { turned = turned; last = (number, subst (λ xs. Contains xs number) (sym (ap (λ (x : DirtyView). x.base.drawn) turned.after)) (Contains-push t.drawn number), past) }

-- ---- what the parts of a turn ask
pub place_found : (d : Parts) (order : List ℕ) (number : ℕ) (net : NetId) → IsOrder d.nets order → number < length order → net.0 ≡ slice_index order number → IsPlace d.nets number (Some net)
place_found d order number net o lt is =
    let count = o.2.count in
    (omega (arith, count, lt), λ other p. ap (λ xs. slice_index xs number) (one_order d.nets other order p o) ∙ sym is)

pub no_place : (d : Parts) (order : List ℕ) (number : ℕ) → IsOrder d.nets order → length order ≤ number → IsPlace d.nets number None
no_place d order number o past = let count = o.2.count in omega (arith, count, past)

-- a pass may take the net at the place that it drew: it was not drawn before
module _ (order : List ℕ) (v w w1 : DirtyView) (d : Parts) (net : NetId) (t : HasTurned order v w) (o : IsOrder d.nets order) (own : v.base.setting.design ≡ d) (none : v.taken ≡ []) (free : IsFree w) (next : HasDrawnNext d.nets w (Some net) w1) where
  drew' : Drew w next.number w1
  drew' = next.drew

  w_is : w.base.setting ≡ v.base.setting
  w_is = ap (λ (x : DirtyView). x.base.setting) t.after

  w1_setting : w1.base.setting ≡ v.base.setting
  w1_setting = ap (λ (x : DirtyView). x.base.setting) next.drew.after ∙ w_is

  nets_are : nets_of v.base.setting ≡ length d.nets
  nets_are = ap (λ (x : Parts). length x.nets) own

  pub drew_below : next.number < nets_of v.base.setting
  drew_below = let b = next.place.0 in let e = nets_are in omega (arith, b, e)

  pub drew_here : next.number < nets_of w.base.setting
  drew_here = let b = drew_below in let e : nets_of w.base.setting ≡ nets_of v.base.setting = ap nets_of w_is in omega (arith, b, e)

  pub drew_net : slice_index order next.number ≡ net.0
  drew_net = next.place.1 order o

  pub takes_next : CanTake w1 net.0
  takes_next = record {
    there =
        let h : slice_index order next.number < length d.nets = order_there d order next.number o next.place.0 in
        let e = nets_are in
        let f : nets_of w1.base.setting ≡ nets_of v.base.setting = ap nets_of w1_setting in
        let at = drew_net in
        omega (arith, h, e, f, at);
    free = subst IsFree (sym next.drew.after) (record { flight = free.flight; owed = free.owed });
    drew = record {
      number = next.number;
      drawn = subst (λ (x : DirtyView). Contains x.base.drawn next.number) (sym next.drew.after) (Contains-push w.base.drawn next.number);
      below = let b = drew_below in let f : nets_of w1.base.setting ≡ nets_of v.base.setting = ap nets_of w1_setting in omega (arith, b, f);
      place = λ other p. next.place.1 other (subst (λ (x : Parts). IsOrder x.nets other) (ap (λ (a : Setting). a.design) w1_setting ∙ own) p);
    };
    fresh = λ c.
        let taken : w1.taken ≡ t.taken = ap (λ (x : DirtyView). x.taken) next.drew.after ∙ ap (λ (x : DirtyView). x.taken) t.after in
        let drawn : w.base.drawn ≡ t.drawn = ap (λ (x : DirtyView). x.base.drawn) t.after in
        elim (t.places net.0 (subst (λ xs. Contains xs net.0) taken c)) [
          | inl old ↦ let k = (subst (λ xs. Contains xs net.0) none old).1 in absurd (omega (arith, k))
          | inr p ↦
              let e = nets_are in
              let lt = p.2 in
              let same : p.0 ≡ next.number = one_place d.nets order p.0 next.number net.0 o (omega (arith, lt, e)) next.place.0 p.3 drew_net in
              let has : Contains w.base.drawn p.0 = subst (λ xs. Contains xs p.0) (sym drawn) p.1 in
              let less : p.0 < next.number = subst (λ x. x < next.number) has.2 (next.drew.greater has.0 p.0 has.1) in
              absurd (omega (arith, same, less))
        ];
  }

-- what was drawn after a visit
pub drawn_after : (w w1 w2 : DirtyView) (number net : ℕ) → Drew w number w1 → HasVisited w1 net w2 → w2.base.drawn ≡ w.base.drawn ++ number ∷ []
drawn_after w w1 w2 number net drew vis = ap (λ (x : DirtyView). x.base.drawn) vis.after ∙ ap (λ (x : DirtyView). x.base.drawn) drew.after

pub free_after : (w w1 w2 : DirtyView) (number net : ℕ) → Drew w number w1 → HasVisited w1 net w2 → IsFree w → IsFree w2
free_after w w1 w2 number net drew vis free = record {
  flight = ap (λ (x : DirtyView). x.flight) vis.after ∙ (ap (λ (x : DirtyView). x.flight) drew.after ∙ free.flight);
  owed = ap (λ (x : DirtyView). x.owed) vis.after ∙ (ap (λ (x : DirtyView). x.owed) drew.after ∙ free.owed);
}

-- a number drawn is above all before
pub above_after : (w : DirtyView) (w1 w2 : DirtyView) (number net : ℕ) → Drew w number w1 → HasVisited w1 net w2 → (above w.base.drawn ≤ number) × (above w2.base.drawn ≡ number + 1)
above_after w w1 w2 number net drew vis =
    let most = above_at_most w.base.drawn number drew.greater in
    (most, ap above (drawn_after w w1 w2 number net drew vis) ∙ above_more w.base.drawn number most)

-- a pass that drew places alone may still draw a number past them
pub late_after : (w w1 w2 : DirtyView) (number net : ℕ) → Drew w number w1 → HasVisited w1 net w2 → number < nets_of w.base.setting → 0 < late_of w.base → 0 < late_of w2.base
late_after w w1 w2 number net drew vis below late =
    let setting : w2.base.setting ≡ w.base.setting = ap (λ (x : DirtyView). x.base.setting) vis.after ∙ ap (λ (x : DirtyView). x.base.setting) drew.after in
    let drawn = drawn_after w w1 w2 number net drew vis in
    let n = nets_of w.base.setting in
    let same : count_from (nets_of w2.base.setting) w2.base.drawn ≡ count_from n (w.base.drawn ++ number ∷ []) = (λ i. count_from (nets_of (setting i)) (drawn i)) in
    let both = count_from_both n w.base.drawn (number ∷ []) in
    let none : count_from n (number ∷ []) ≡ 0 = grind (arith, nat_tests) in
    omega (arith, late, same, both, none)
