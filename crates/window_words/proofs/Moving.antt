-- A pass finds a number in a word, or moves the word on: the rule is kept.
use Rattle.std.proofs.Common.{◌≡◌, ◌≢◌, ℕ, ◌%◌, ◌<◌, ◌≤◌, inl, inr, refl, sym, ap, subst, ◌∙◌, List, [], ◌∷◌, length, set, arith}
use Rattle.std.specs.List.{sum_by}
use Rattle.std.proofs.lemmas.Bool.{cases_eq}
use Rattle.std.proofs.lemmas.List.{set-append_left, length-set}
use Rattle.atomic_table.specs.Table.{State}
use Rattle.atomic_table.proofs.Lists.{set_here, set_else}
use Rattle.xt_meaning.specs.Barrier.{IsBoundNoFurther}
use Rattle.xt_meaning.specs.Words.{bound_in, number_at, bounds_in, AreNoFurther}
use Rattle.xt_meaning.proofs.Steps.{bound_refl, bound_trans, respects_before}
use Rattle.chaos_core.specs.declared.setting.Setting.{Setting}
use Rattle.chaos_core.specs.Boards.{nets_of, started, IsSeen}
use Rattle.chaos_core.specs.Memories.{AreKept}
use Rattle.chaos_core.proofs.Sight.{are_trans, at_each, number_here, number_else, seen_onward}
use Rattle.window_words.specs.declared.view.Role.TheVariants.{Spent}
use Rattle.window_words.specs.declared.view.View.{View}
use Rattle.window_words.specs.Views.{IsUnspent, first_count, other_count, times, count_from, with_seen}
use Rattle.window_words.specs.Rule.{IsThere, IsBehind, IsSeenBySome, AreSeen, most_split, most_late, Kept}
use Rattle.window_words.proofs.Totals.{total_set}
use Rattle.window_words.proofs.Views.{each_set, within, same_view}

-- a total does not change where one view keeps what is added up
pub total_same : (f : View → ℕ) (views : List View) (id : ℕ) (v w : View) → IsThere views id v → f w ≡ f v → sum_by f (set views id w) ≡ sum_by f views
total_same f views id v w there same = let h = total_set f views id v w there in omega (arith, h, same)

-- what is seen behind words that cross no barrier crosses none
pub seen_behind : (a : Setting) (now seen : List ℕ) → AreKept a now → length seen ≡ length now → AreNoFurther a.way (started a) (bounds_in seen) → AreNoFurther a.way (bounds_in seen) (bounds_in now) → IsSeen a seen
seen_behind a now seen kept count begun behind = record {
  sound = kept.seen.sound;
  start = kept.seen.start;
  count = count ∙ kept.seen.count;
  respects = λ word. respects_before a.way a.design word (bounds_in seen word) (bounds_in now word) (behind word) (kept.seen.respects word);
  started = begun;
}

module _ (a : Setting) (s : State (Unit {0}) View) (k : Kept a s) (id : ℕ) (v : View) (there : IsThere s.views id v) (unspent : IsUnspent v.role)
    (i : ℕ) (inside : i < length k.now) (x made : ℕ) (bounded : AreKept a (set k.now i x))
    (on : IsBoundNoFurther a.way (i % 2) (bounds_in k.now i) (bound_in x)) where
  past : IsBehind a k.now v
  past = k.seen.behind id v there unspent

  seen_inside : i < length v.seen
  seen_inside = let c = past.count in let h = inside in omega (arith, c, h)

  words_on : AreNoFurther a.way (bounds_in k.now) (bounds_in (set k.now i x))
  words_on = seen_onward a.way k.now i x inside on

  view_on : AreNoFurther a.way (bounds_in v.seen) (bounds_in (set v.seen i x))
  view_on = seen_onward a.way v.seen i x seen_inside (bound_trans a.way (i % 2) (bounds_in v.seen i) (bounds_in k.now i) (bound_in x) (past.behind i) on)

  view_behind : AreNoFurther a.way (bounds_in (set v.seen i x)) (bounds_in (set k.now i x))
  view_behind =
      at_each (λ w n. IsBoundNoFurther a.way (w % 2) (bound_in n) (bounds_in (set k.now i x) w)) v.seen i x seen_inside
      (let P : ℕ → Type 0 = λ n. IsBoundNoFurther a.way (i % 2) (bound_in x) (bound_in n) in subst P (sym (number_here k.now i x inside)) (bound_refl a.way (i % 2) (bound_in x)))
      (λ w. bound_trans a.way (w % 2) (bounds_in v.seen w) (bounds_in k.now w) (bounds_in (set k.now i x) w) (past.behind w) (words_on w))

  mover_behind : IsBehind a (set k.now i x) (with_seen v i x made)
  mover_behind = record {
    count = length-set v.seen i x ∙ (past.count ∙ sym (length-set k.now i x));
    started = are_trans a.way (started a) (bounds_in v.seen) (bounds_in (set v.seen i x)) past.started view_on;
    behind = view_behind;
  }

  others_behind : (u : View) → IsBehind a k.now u → IsBehind a (set k.now i x) u
  others_behind u h = record {
    count = h.count ∙ sym (length-set k.now i x);
    started = h.started;
    behind = are_trans a.way (bounds_in u.seen) (bounds_in k.now) (bounds_in (set k.now i x)) h.behind words_on;
  }

  place : id < length s.views
  place = within s.views id v there

  shown_here : IsSeenBySome (set s.views id (with_seen v i x made)) i (number_at (set k.now i x) i)
  shown_here = record {
    id = id;
    view = with_seen v i x made;
    there = set_here s.views id (with_seen v i x made) place;
    unspent = unspent;
    seen = number_here v.seen i x seen_inside ∙ sym (number_here k.now i x inside);
  }

  shown_else : (word : ℕ) → word ≢ i → IsSeenBySome s.views word (number_at k.now word) → IsSeenBySome (set s.views id (with_seen v i x made)) word (number_at (set k.now i x) word)
  shown_else word ne by = elim (cases_eq by.id id) [
    | inl e ↦
        let P : ℕ → Type 0 = λ j. IsThere s.views j by.view in
        let same : v ≡ by.view = same_view s.views id v by.view there (subst P e by.there) in
        record {
          id = id;
          view = with_seen v i x made;
          there = set_here s.views id (with_seen v i x made) place;
          unspent = unspent;
          seen = number_else v.seen i x word ne ∙ (ap (λ (u : View). number_at u.seen word) same ∙ (by.seen ∙ sym (number_else k.now i x word ne)));
        }
    | inr other ↦ record {
      id = by.id;
      view = by.view;
      there = set_else s.views id by.id (with_seen v i x made) other ∙ by.there;
      unspent = by.unspent;
      seen = by.seen ∙ sym (number_else k.now i x word ne);
    }
  ]

  seen_on : AreSeen a (set k.now i x) (set s.views id (with_seen v i x made))
  seen_on = record {
    behind = each_set (λ u. IsUnspent u.role → IsBehind a (set k.now i x) u) s.views id (with_seen v i x made) (λ j u e live. others_behind u (k.seen.behind j u e live)) (λ live. mover_behind);
    shown = λ word h. elim (cases_eq word i) [
      | inl e ↦
          let P : ℕ → Type 0 = λ w. IsSeenBySome (set s.views id (with_seen v i x made)) w (number_at (set k.now i x) w) in
          subst P (sym e) shown_here
      | inr ne ↦ shown_else word ne (k.seen.shown word (let c = length-set k.now i x in omega (arith, c, h)))
    ];
  }

  pub seen_after : IsSeen a (set v.seen i x)
  seen_after = seen_behind a (set k.now i x) (set v.seen i x) bounded mover_behind.count mover_behind.started view_behind

  pub moved : Kept a (record { words = set s.words i x; homes = s.homes; views = set s.views id (with_seen v i x made) })
  moved =
      let w = with_seen v i x made in
      let run_here : IsUnspent v.role → v.setting ≡ a = k.run id v there in
      record {
        now = set k.now i x;
        next = k.next;
        words = ap (λ ws. set ws i x) k.words ∙ set-append_left k.now (k.next ∷ []) i x inside;
        run = each_set (λ u. IsUnspent u.role → u.setting ≡ a) s.views id w k.run run_here;
        bounded = bounded;
        seen = seen_on;
        drawn = λ y. total_same (λ u. times y u.drawn) s.views id v w there refl ∙ k.drawn y;
        counted = record {
          first = total_same (λ u. first_count u.role) s.views id v w there refl ∙ k.counted.first;
          others = total_same (λ u. other_count u.role) s.views id v w there refl ∙ (k.counted.others ∙ sym (total_same (λ u. u.out) s.views id v w there refl));
          out = each_set (λ u. u.out ≤ u.split) s.views id w k.counted.out (k.counted.out id v there);
          split = each_set (λ u. u.split ≤ most_split u.role) s.views id w k.counted.split (k.counted.split id v there);
        };
        few = record {
          each = each_set (λ u. count_from (nets_of a) u.drawn ≤ most_late u u.role) s.views id w k.few.each (k.few.each id v there);
          spent = each_set (λ u. u.role ≡ Spent → u.drawn ≡ []) s.views id w k.few.spent (k.few.spent id v there);
          all = total_same (λ u. count_from (nets_of a) u.drawn) s.views id v w there refl ∙ k.few.all;
        };
      }
