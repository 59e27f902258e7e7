-- A pass is split off, and a pass is joined: the rule is kept.
use Rattle.std.proofs.Common.{◌≡◌, ◌≢◌, ℕ, zero, suc, ◌+◌, ◌%◌, ◌<◌, ◌≤◌, inl, inr, refl, sym, ap, subst, ◌∙◌, List, [], ◌∷◌, ◌++◌, length, set, arith}
use Rattle.std.specs.List.{sum_by}
use Rattle.std.proofs.lemmas.Int.{ints}
use Rattle.std.proofs.lemmas.Bool.{cases_eq}
use Rattle.std.proofs.lemmas.List.Sums.{sum_by_push}
use Rattle.atomic_table.specs.Table.{State}
use Rattle.atomic_table.proofs.Lists.{set_here, set_else, at_longer}
use Rattle.xt_model.specs.declared.direction.Direction.{Direction}
use Rattle.xt_model.specs.declared.direction.Direction.TheVariants.{Widen, Narrow}
use Rattle.xt_meaning.specs.Barrier.{IsBoundNoFurther, RespectsAt}
use Rattle.xt_meaning.specs.Words.{bound_in, number_at, bounds_in, AreNoFurther, further, furthest_from, furthest}
use Rattle.xt_meaning.proofs.Steps.{bound_trans}
use Rattle.xt_meaning.proofs.Numbers.{further_one, further_first, further_second, further_least, furthest_each}
use Rattle.chaos_core.specs.declared.setting.Setting.{Setting}
use Rattle.chaos_core.specs.Boards.{nets_of, started, IsSeen}
use Rattle.window_words.specs.declared.view.Role.{Role}
use Rattle.window_words.specs.declared.view.Role.TheVariants.{First, Other, Spent}
use Rattle.window_words.specs.declared.view.View.{View}
use Rattle.window_words.specs.Views.{IsUnspent, first_count, other_count, times, count_from, with_one_out, sent_out, with_both, spent_view}
use Rattle.window_words.specs.Rule.{IsThere, IsBehind, IsSeenBySome, AreSeen, most_split, most_late, Kept}
use Rattle.window_words.proofs.Totals.{total_set, total_part}
use Rattle.window_words.proofs.Views.{each_set, each_more, within, same_view, times_both, count_from_both}
use Rattle.window_words.proofs.Alone.{out_others, not_spent}
use Rattle.window_words.proofs.Moving.{total_same}
use Rattle.window_words.proofs.Drawing.{seen_kept}

-- ---- a pass is split off
seen_more : (a : Setting) (now : List ℕ) (views : List View) (w : View) → AreSeen a now views → (IsUnspent w.role → IsBehind a now w) → AreSeen a now (views ++ w ∷ [])
seen_more a now views w h behind = record {
  behind = each_more (λ u. IsUnspent u.role → IsBehind a now u) views w h.behind behind;
  shown = λ word inside.
      let by = h.shown word inside in
      record { id = by.id; view = by.view; there = at_longer views (w ∷ []) by.id by.view by.there; unspent = by.unspent; seen = by.seen };
}

first_late : (r : Role) (v : View) (late : ℕ) → r ≡ First → v.out ≤ v.split → late ≤ most_late v r → late ≤ most_late (with_one_out v) r
first_late First v late e o h = omega (arith, o, h)
first_late Other v late e o h = h
first_late Spent v late e o h = h

most_first : (r : Role) → r ≡ First → most_split r ≡ 64
most_first r e = ap most_split e

module _ (a : Setting) (s : State (Unit {0}) View) (k : Kept a s) (id : ℕ) (v : View) (there : IsThere s.views id v) (first : v.role ≡ First) where
  live : IsUnspent v.role
  live = subst IsUnspent (sym first) tt

  one_first : first_count v.role ≡ 1
  one_first = ap first_count first

  no_other : other_count v.role ≡ 0
  no_other = ap other_count first

  pub parted : v.split < 64 → Kept a (record { words = s.words; homes = s.homes; views = set s.views id (with_one_out v) ++ sent_out v ∷ [] })
  parted few =
      let left = with_one_out v in
      let right = sent_out v in
      let views = set s.views id left in
      let nets = nets_of a in
      let run_here : IsUnspent v.role → v.setting ≡ a = k.run id v there in
      let behind_right : IsUnspent right.role → IsBehind a k.now right =
      λ _. let b = k.seen.behind id v there live in record { count = b.count; started = b.started; behind = b.behind } in
      let behind_left : IsUnspent left.role → IsBehind a k.now left =
      λ _. let b = k.seen.behind id v there live in record { count = b.count; started = b.started; behind = b.behind } in
      let out_here = k.counted.out id v there in
      let none_spent : right.role ≡ Spent → right.drawn ≡ [] = λ _. refl in
      record {
        now = k.now;
        next = k.next;
        words = k.words;
        run = each_more (λ u. IsUnspent u.role → u.setting ≡ a) views right (each_set (λ u. IsUnspent u.role → u.setting ≡ a) s.views id left k.run run_here) (λ _. run_here live);
        bounded = k.bounded;
        seen = seen_more a k.now views right (seen_kept a k.now s.views id v left there k.seen live refl behind_left) behind_right;
        drawn = λ x.
            let f : View → ℕ = λ u. times x u.drawn in
            let p = sum_by_push f views right in
            let t = total_same f s.views id v left there refl in
            let d = k.drawn x in
            omega (arith, p, t, d);
        counted = record {
          first =
              let f : View → ℕ = λ u. first_count u.role in
              let p = sum_by_push f views right in
              let t = total_same f s.views id v left there refl in
              let d = k.counted.first in
              omega (arith, p, t, d);
          others =
              let f : View → ℕ = λ u. other_count u.role in
              let g : View → ℕ = λ u. u.out in
              let p = sum_by_push f views right in
              let q = sum_by_push g views right in
              let t = total_same f s.views id v left there refl in
              let u = total_set g s.views id v left there in
              let d = k.counted.others in
              omega (arith, p, q, t, u, d);
          out = each_more (λ u. u.out ≤ u.split) views right (each_set (λ u. u.out ≤ u.split) s.views id left k.counted.out (omega (arith, out_here))) (omega arith);
          split = each_more (λ u. u.split ≤ most_split u.role) views right
              (each_set (λ u. u.split ≤ most_split u.role) s.views id left k.counted.split (let m = most_first v.role first in omega (arith, m, few))) (omega arith);
        };
        few = record {
          each = each_more (λ u. count_from nets u.drawn ≤ most_late u u.role) views right
              (each_set (λ u. count_from nets u.drawn ≤ most_late u u.role) s.views id left k.few.each (first_late v.role v (count_from nets v.drawn) first out_here (k.few.each id v there)))
              (omega arith);
          spent = each_more (λ u. u.role ≡ Spent → u.drawn ≡ []) views right (each_set (λ u. u.role ≡ Spent → u.drawn ≡ []) s.views id left k.few.spent (k.few.spent id v there)) none_spent;
          all =
              let f : View → ℕ = λ u. count_from nets u.drawn in
              let p = sum_by_push f views right in
              let t = total_same f s.views id v left there refl in
              let d = k.few.all in
              omega (arith, p, t, d);
        };
      }

-- ---- the further of two
further_keeps : (way : Direction) (side m n : ℕ) → IsBoundNoFurther way side (bound_in n) (bound_in m) → further way side m n ≡ m
further_keeps Widen zero m n h = let k : m ≤ n = omega (arith, ints, h) in omega (arith, k)
further_keeps Widen (suc s) m n h = let k : n ≤ m = omega (arith, ints, h) in omega (arith, k)
further_keeps Narrow zero m n h = let k : n ≤ m = omega (arith, ints, h) in omega (arith, k)
further_keeps Narrow (suc s) m n h = let k : m ≤ n = omega (arith, ints, h) in omega (arith, k)

further_takes : (way : Direction) (side m n : ℕ) → IsBoundNoFurther way side (bound_in m) (bound_in n) → further way side m n ≡ n
further_takes Widen zero m n h = let k : n ≤ m = omega (arith, ints, h) in omega (arith, k)
further_takes Widen (suc s) m n h = let k : m ≤ n = omega (arith, ints, h) in omega (arith, k)
further_takes Narrow zero m n h = let k : m ≤ n = omega (arith, ints, h) in omega (arith, k)
further_takes Narrow (suc s) m n h = let k : n ≤ m = omega (arith, ints, h) in omega (arith, k)

furthest_count : (way : Direction) (word : ℕ) (ms ns : List ℕ) → length ms ≡ length ns → length (furthest_from way word ms ns) ≡ length ms
furthest_count way word [] ns e = refl
furthest_count way word (m ∷ ms) [] e = absurd (omega arith)
furthest_count way word (m ∷ ms) (n ∷ ns) e = let h = furthest_count way (word + 1) ms ns (omega arith) in omega (arith, h)

-- what two passes have seen crosses no barrier where both have crossed none
pub seen_both : (a : Setting) (ms ns : List ℕ) → IsSeen a ms → IsSeen a ns → IsSeen a (furthest a.way ms ns)
seen_both a ms ns h k =
    let both = furthest a.way ms ns in
    let e : length ms ≡ length ns = h.count ∙ sym k.count in
    record {
      sound = h.sound;
      start = h.start;
      count = furthest_count a.way 0 ms ns e ∙ h.count;
      respects = λ word.
          let m = number_at ms word in
          let n = number_at ns word in
          let P : ℕ → Type 0 = λ x. RespectsAt a.way a.design word (bound_in x) in
          subst P (sym (furthest_each a.way ms ns word e))
          (elim (further_one a.way (word % 2) m n) [ inl p ↦ subst P (sym p) (h.respects word) | inr p ↦ subst P (sym p) (k.respects word) ]);
      started = λ word.
          let m = number_at ms word in
          let n = number_at ns word in
          let P : ℕ → Type 0 = λ x. IsBoundNoFurther a.way (word % 2) (started a word) (bound_in x) in
          subst P (sym (furthest_each a.way ms ns word e))
          (bound_trans a.way (word % 2) (started a word) (bound_in m) (bound_in (further a.way (word % 2) m n)) (h.started word) (further_first a.way (word % 2) m n));
    }

-- ---- a pass is joined
join_late : (r : Role) (v w : View) (late more : ℕ) → r ≡ First → late ≤ most_late v r → more ≤ 1 → 0 < v.out → v.out ≤ v.split → late + more ≤ most_late (with_both v w) r
join_late First v w late more e h m o p = omega (arith, h, m, o, p)
join_late Other v w late more e h m o p = let q : 0 ≡ 1 = ap first_count e in absurd (omega (arith, q))
join_late Spent v w late more e h m o p = let q : 0 ≡ 1 = ap first_count e in absurd (omega (arith, q))

one_other : (w : View) (r : Role) (late : ℕ) → r ≡ Other → late ≤ most_late w r → late ≤ 1
one_other w First late e h = let q : 0 ≡ 1 = ap other_count e in absurd (omega (arith, q))
one_other w Other late e h = h
one_other w Spent late e h = omega (arith, h)

none_out : (r : Role) (w : View) → r ≡ Other → w.out ≤ w.split → w.split ≤ most_split r → w.out ≡ 0
none_out First w e h k = let q : 0 ≡ 1 = ap other_count e in absurd (omega (arith, q))
none_out Other w e h k = omega (arith, h, k)
none_out Spent w e h k = omega (arith, h, k)

module _ (a : Setting) (s : State (Unit {0}) View) (k : Kept a s) (id : ℕ) (v : View) (there : IsThere s.views id v) (first : v.role ≡ First)
    (other : ℕ) (w : View) (ne : other ≢ id) (second : IsThere (set s.views id (with_both v w)) other w) (role : w.role ≡ Other) where
  second_there : IsThere s.views other w
  second_there = sym (set_else s.views id other (with_both v w) ne) ∙ second

  first_live : IsUnspent v.role
  first_live = subst IsUnspent (sym first) tt

  other_live : IsUnspent w.role
  other_live = subst IsUnspent (sym role) tt

  way_same : v.setting ≡ a
  way_same = k.run id v there first_live

  first_behind : IsBehind a k.now v
  first_behind = k.seen.behind id v there first_live

  other_behind : IsBehind a k.now w
  other_behind = k.seen.behind other w second_there other_live

  some_out : 0 < v.out
  some_out =
      let p = total_part (λ (u : View). other_count u.role) s.views other w second_there in
      let one : other_count w.role ≡ 1 = ap other_count role in
      let o = out_others a s k id v there first in
      omega (arith, p, one, o)

  counts : length v.seen ≡ length w.seen
  counts = first_behind.count ∙ sym other_behind.count

  both_at : (word : ℕ) → number_at (furthest v.setting.way v.seen w.seen) word ≡ further a.way (word % 2) (number_at v.seen word) (number_at w.seen word)
  both_at word =
      let P : Setting → Type 0 = λ b. number_at (furthest v.setting.way v.seen w.seen) word ≡ further b.way (word % 2) (number_at v.seen word) (number_at w.seen word) in
      subst P way_same (furthest_each v.setting.way v.seen w.seen word counts)

  both_behind : IsBehind a k.now (with_both v w)
  both_behind = record {
    count = furthest_count v.setting.way 0 v.seen w.seen counts ∙ first_behind.count;
    started = λ word.
        let P : ℕ → Type 0 = λ x. IsBoundNoFurther a.way (word % 2) (started a word) (bound_in x) in
        subst P (sym (both_at word))
        (bound_trans a.way (word % 2) (started a word) (bounds_in v.seen word) (bound_in (further a.way (word % 2) (number_at v.seen word) (number_at w.seen word))) (first_behind.started word)
        (further_first a.way (word % 2) (number_at v.seen word) (number_at w.seen word)));
    behind = λ word.
        let P : ℕ → Type 0 = λ x. IsBoundNoFurther a.way (word % 2) (bound_in x) (bounds_in k.now word) in
        subst P (sym (both_at word))
        (further_least a.way (word % 2) (number_at v.seen word) (number_at w.seen word) (bounds_in k.now word) (first_behind.behind word) (other_behind.behind word));
  }

  abbrev joined_views : List View
  joined_views = set (set s.views id (with_both v w)) other spent_view

  first_there : IsThere joined_views id (with_both v w)
  first_there = set_else (set s.views id (with_both v w)) other id spent_view (λ e. ne (sym e)) ∙ set_here s.views id (with_both v w) (within s.views id v there)

  shown_first : (word : ℕ) → number_at (with_both v w).seen word ≡ number_at k.now word → IsSeenBySome joined_views word (number_at k.now word)
  shown_first word e = record { id = id; view = with_both v w; there = first_there; unspent = first_live; seen = e }

  -- what the first had seen as it is stays so
  keeps_first : (word : ℕ) → number_at v.seen word ≡ number_at k.now word → number_at (with_both v w).seen word ≡ number_at k.now word
  keeps_first word e =
      let P : ℕ → Type 0 = λ x. IsBoundNoFurther a.way (word % 2) (bounds_in w.seen word) (bound_in x) in
      both_at word ∙ (further_keeps a.way (word % 2) (number_at v.seen word) (number_at w.seen word) (subst P (sym e) (other_behind.behind word)) ∙ e)

  keeps_other : (word : ℕ) → number_at w.seen word ≡ number_at k.now word → number_at (with_both v w).seen word ≡ number_at k.now word
  keeps_other word e =
      let P : ℕ → Type 0 = λ x. IsBoundNoFurther a.way (word % 2) (bounds_in v.seen word) (bound_in x) in
      both_at word ∙ (further_takes a.way (word % 2) (number_at v.seen word) (number_at w.seen word) (subst P (sym e) (first_behind.behind word)) ∙ e)

  shown_joined : (word : ℕ) → IsSeenBySome s.views word (number_at k.now word) → IsSeenBySome joined_views word (number_at k.now word)
  shown_joined word by = elim (cases_eq by.id id) [
    | inl e ↦
        let P : ℕ → Type 0 = λ j. IsThere s.views j by.view in
        let one : v ≡ by.view = same_view s.views id v by.view there (subst P e by.there) in
        shown_first word (keeps_first word (ap (λ (u : View). number_at u.seen word) one ∙ by.seen))
    | inr apart ↦ elim (cases_eq by.id other) [
      | inl e ↦
          let P : ℕ → Type 0 = λ j. IsThere s.views j by.view in
          let one : w ≡ by.view = same_view s.views other w by.view second_there (subst P e by.there) in
          shown_first word (keeps_other word (ap (λ (u : View). number_at u.seen word) one ∙ by.seen))
      | inr not ↦ record {
        id = by.id;
        view = by.view;
        there = set_else (set s.views id (with_both v w)) other by.id spent_view not ∙ (set_else s.views id by.id (with_both v w) apart ∙ by.there);
        unspent = by.unspent;
        seen = by.seen;
      }
    ]
  ]

  total_both : (f : View → ℕ) → f spent_view ≡ 0 → sum_by f joined_views + (f v + f w) ≡ sum_by f s.views + f (with_both v w)
  total_both f none =
      let t = total_set f s.views id v (with_both v w) there in
      let u = total_set f (set s.views id (with_both v w)) other w spent_view second in
      omega (arith, t, u, none)

  pub joined : Kept a (record { words = s.words; homes = s.homes; views = set (set s.views id (with_both v w)) other spent_view })
  joined =
      let both = with_both v w in
      let views = set s.views id both in
      let nets = nets_of a in
      let out_here = k.counted.out id v there in
      let one : first_count v.role ≡ 1 = ap first_count first in
      let none : other_count v.role ≡ 0 = ap other_count first in
      let no_first : first_count w.role ≡ 0 = ap first_count role in
      let one_more : other_count w.role ≡ 1 = ap other_count role in
      let out_none : w.out ≡ 0 = none_out w.role w role (k.counted.out other w second_there) (k.counted.split other w second_there) in
      let some = some_out in
      let run_here : IsUnspent both.role → both.setting ≡ a = λ live. way_same in
      let spent_run : IsUnspent spent_view.role → spent_view.setting ≡ a = λ live. absurd live in
      let spent_seen : IsUnspent spent_view.role → IsBehind a k.now spent_view = λ live. absurd live in
      let spent_here : both.role ≡ Spent → both.drawn ≡ [] = λ e. absurd (not_spent v.role first_live e) in
      record {
        now = k.now;
        next = k.next;
        words = k.words;
        run = each_set (λ u. IsUnspent u.role → u.setting ≡ a) views other spent_view (each_set (λ u. IsUnspent u.role → u.setting ≡ a) s.views id both k.run run_here) spent_run;
        bounded = k.bounded;
        seen = record {
          behind = each_set (λ u. IsUnspent u.role → IsBehind a k.now u) views other spent_view
              (each_set (λ u. IsUnspent u.role → IsBehind a k.now u) s.views id both k.seen.behind (λ live. both_behind)) spent_seen;
          shown = λ word inside. shown_joined word (k.seen.shown word inside);
        };
        drawn = λ x.
            let t = total_both (λ (u : View). times x u.drawn) refl in
            let b = times_both x v.drawn w.drawn in
            let d = k.drawn x in
            omega (arith, t, b, d);
        counted = record {
          first = let t = total_both (λ (u : View). first_count u.role) refl in let d = k.counted.first in omega (arith, t, d, no_first);
          others =
              let t = total_both (λ (u : View). other_count u.role) refl in
              let u = total_both (λ (u : View). u.out) refl in
              let d = k.counted.others in
              omega (arith, t, u, d, one_more, out_none, some);
          out = each_set (λ u. u.out ≤ u.split) views other spent_view (each_set (λ u. u.out ≤ u.split) s.views id both k.counted.out (omega (arith, out_here))) (omega arith);
          split = each_set (λ u. u.split ≤ most_split u.role) views other spent_view
              (each_set (λ u. u.split ≤ most_split u.role) s.views id both k.counted.split (k.counted.split id v there)) (omega arith);
        };
        few = record {
          each = each_set (λ u. count_from nets u.drawn ≤ most_late u u.role) views other spent_view
              (each_set (λ u. count_from nets u.drawn ≤ most_late u u.role) s.views id both k.few.each
              (let b = count_from_both nets v.drawn w.drawn in
              let m = join_late v.role v w (count_from nets v.drawn) (count_from nets w.drawn) first (k.few.each id v there)
              (one_other w w.role (count_from nets w.drawn) role (k.few.each other w second_there)) some out_here in
              omega (arith, b, m)))
              (omega arith);
          spent = each_set (λ u. u.role ≡ Spent → u.drawn ≡ []) views other spent_view (each_set (λ u. u.role ≡ Spent → u.drawn ≡ []) s.views id both k.few.spent spent_here) (λ e. refl);
          all =
              let t = total_both (λ (u : View). count_from nets u.drawn) refl in
              let b = count_from_both nets v.drawn w.drawn in
              let d = k.few.all in
              omega (arith, t, b, d);
        };
      }

-- ---- what both have seen is at or past what each has
pub both_first : (way : Direction) (ms ns : List ℕ) → length ms ≡ length ns → AreNoFurther way (bounds_in ms) (bounds_in (furthest way ms ns))
both_first way ms ns e word =
    let P : ℕ → Type 0 = λ n. IsBoundNoFurther way (word % 2) (bounds_in ms word) (bound_in n) in
    subst P (sym (furthest_each way ms ns word e)) (further_first way (word % 2) (number_at ms word) (number_at ns word))

pub both_second : (way : Direction) (ms ns : List ℕ) → length ms ≡ length ns → AreNoFurther way (bounds_in ns) (bounds_in (furthest way ms ns))
both_second way ms ns e word =
    let P : ℕ → Type 0 = λ n. IsBoundNoFurther way (word % 2) (bounds_in ns word) (bound_in n) in
    subst P (sym (furthest_each way ms ns word e)) (further_second way (word % 2) (number_at ms word) (number_at ns word))
