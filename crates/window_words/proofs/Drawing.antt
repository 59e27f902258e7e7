-- A number is drawn, and the numbers begin anew: the rule is kept.
use Rattle.std.proofs.Common.{◌≡◌, ℕ, ◌+◌, ◌<◌, ◌≤◌, inl, inr, refl, sym, ap, subst, ◌∙◌, List, [], ◌∷◌, ◌++◌, length, set, arith}
use Rattle.std.specs.List.{All}
use Rattle.std.proofs.lemmas.Bool.{cases_eq}
use Rattle.std.proofs.Math.Seq.{set-append_seam}
use Rattle.atomic_table.specs.Table.{State}
use Rattle.atomic_table.proofs.Lists.{set_here, set_else}
use Rattle.xt_meaning.specs.Words.{number_at}
use Rattle.chaos_core.specs.declared.setting.Setting.{Setting}
use Rattle.chaos_core.specs.Boards.{nets_of}
use Rattle.window_words.specs.declared.view.Role.{Role}
use Rattle.window_words.specs.declared.view.Role.TheVariants.{First, Other, Spent}
use Rattle.window_words.specs.declared.view.View.{View}
use Rattle.window_words.specs.Views.{IsUnspent, first_count, other_count, times, count_from, begun_anew}
use Rattle.window_words.specs.Rule.{IsThere, IsBehind, AreSeen, most_split, most_late, Kept}
use Rattle.window_words.proofs.Totals.{total_set}
use Rattle.window_words.proofs.Views.{each_set, within, same_view, times_both, count_from_both, once_more, count_more, count_one, once_none, all_below}
use Rattle.window_words.proofs.Alone.{times_each, drawn_alone, late_alone, not_spent}
use Rattle.window_words.proofs.Moving.{total_same}

-- what is seen stays as it was where one view keeps what it has seen
pub seen_kept : (a : Setting) (now : List ℕ) (views : List View) (id : ℕ) (v w : View) → IsThere views id v → AreSeen a now views → IsUnspent w.role → w.seen ≡ v.seen → (IsUnspent w.role → IsBehind a now w) → AreSeen a now (set views id w)
seen_kept a now views id v w there h live same behind = record {
  behind = each_set (λ u. IsUnspent u.role → IsBehind a now u) views id w h.behind behind;
  shown = λ word inside.
      let by = h.shown word inside in
      elim (cases_eq by.id id) [
        | inl e ↦
            let P : ℕ → Type 0 = λ j. IsThere views j by.view in
            let one : v ≡ by.view = same_view views id v by.view there (subst P e by.there) in
            record {
              id = id;
              view = w;
              there = set_here views id w (within views id v there);
              unspent = live;
              seen = ap (λ (seen : List ℕ). number_at seen word) same ∙ (ap (λ (u : View). number_at u.seen word) one ∙ by.seen);
            }
        | inr other ↦ record { id = by.id; view = by.view; there = set_else views id by.id w other ∙ by.there; unspent = by.unspent; seen = by.seen }
      ];
}

one_late : (r : Role) (v : View) → IsUnspent r → v.out ≤ v.split → 1 ≤ most_late v r
one_late First v live h = omega arith
one_late Other v live h = omega arith
one_late Spent v live h = absurd live

same_late : (v w : View) (r : Role) → w.out ≡ v.out → w.split ≡ v.split → most_late v r ≡ most_late w r
same_late v w First o s = rw (o, s) refl
same_late v w Other o s = refl
same_late v w Spent o s = refl

module _ (a : Setting) (s : State (Unit {0}) View) (k : Kept a s) (id : ℕ) (v : View) (there : IsThere s.views id v) (unspent : IsUnspent v.role) where
  pub draws_greater : All (λ x. x < k.next) v.drawn
  draws_greater = all_below k.next v.drawn (times_each a s k id v there)

  -- a pass with no late number draws the next
  pub drew : count_from (nets_of a) v.drawn ≡ 0
      → Kept a (record { words = set s.words (length k.now) (k.next + 1); homes = s.homes; views = set s.views id (record v { drawn = v.drawn ++ k.next ∷ [] }) })
  drew none =
      let n = k.next in
      let w : View = record v { drawn = v.drawn ++ n ∷ [] } in
      let nets = nets_of a in
      let run_here : IsUnspent v.role → v.setting ≡ a = k.run id v there in
      let spent_here : v.role ≡ Spent → v.drawn ++ n ∷ [] ≡ [] = λ e. absurd (not_spent v.role unspent e) in
      record {
        now = k.now;
        next = n + 1;
        words = ap (λ ws. set ws (length k.now) (n + 1)) k.words ∙ set-append_seam k.now n [] (n + 1);
        run = each_set (λ u. IsUnspent u.role → u.setting ≡ a) s.views id w k.run run_here;
        bounded = k.bounded;
        seen = seen_kept a k.now s.views id v w there k.seen unspent refl (λ live. let b = k.seen.behind id v there unspent in record { count = b.count; started = b.started; behind = b.behind });
        drawn = λ x.
            let t = total_set (λ (u : View). times x u.drawn) s.views id v w there in
            let b = times_both x v.drawn (n ∷ []) in
            let o = once_more n x in
            let d = k.drawn x in
            omega (arith, t, b, o, d);
        counted = record {
          first = total_same (λ u. first_count u.role) s.views id v w there refl ∙ k.counted.first;
          others = total_same (λ u. other_count u.role) s.views id v w there refl ∙ (k.counted.others ∙ sym (total_same (λ u. u.out) s.views id v w there refl));
          out = each_set (λ u. u.out ≤ u.split) s.views id w k.counted.out (k.counted.out id v there);
          split = each_set (λ u. u.split ≤ most_split u.role) s.views id w k.counted.split (k.counted.split id v there);
        };
        few = record {
          each = each_set (λ u. count_from nets u.drawn ≤ most_late u u.role) s.views id w k.few.each
              (let b = count_from_both nets v.drawn (n ∷ []) in
              let one = count_one nets n in
              let may = one_late v.role v unspent (k.counted.out id v there) in
              let same = same_late v w v.role refl refl in
              omega (arith, b, one, may, same, none));
          spent = each_set (λ u. u.role ≡ Spent → u.drawn ≡ []) s.views id w k.few.spent spent_here;
          all =
              let t = total_set (λ (u : View). count_from nets u.drawn) s.views id v w there in
              let b = count_from_both nets v.drawn (n ∷ []) in
              let c = count_more nets n in
              let d = k.few.all in
              omega (arith, t, b, c, d);
        };
      }

  -- the first pass, with none out, begins anew
  pub began : (first : v.role ≡ First) (none : v.out ≡ 0)
      → Kept a (record { words = set s.words (length k.now) 0; homes = s.homes; views = set s.views id (begun_anew v) })
  began first none =
      let w : View = begun_anew v in
      let nets = nets_of a in
      let run_here : IsUnspent v.role → v.setting ≡ a = k.run id v there in
      record {
        now = k.now;
        next = 0;
        words = ap (λ ws. set ws (length k.now) 0) k.words ∙ set-append_seam k.now k.next [] 0;
        run = each_set (λ u. IsUnspent u.role → u.setting ≡ a) s.views id w k.run run_here;
        bounded = k.bounded;
        seen = seen_kept a k.now s.views id v w there k.seen unspent refl (λ live. let b = k.seen.behind id v there unspent in record { count = b.count; started = b.started; behind = b.behind });
        drawn = λ x.
            let t = total_set (λ (u : View). times x u.drawn) s.views id v w there in
            let e = drawn_alone a s k id v there first none x in
            let d = k.drawn x in
            let o = once_none x in
            omega (arith, t, e, d, o);
        counted = record {
          first = total_same (λ u. first_count u.role) s.views id v w there refl ∙ k.counted.first;
          others = total_same (λ u. other_count u.role) s.views id v w there refl ∙ (k.counted.others ∙ sym (total_same (λ u. u.out) s.views id v w there refl));
          out = each_set (λ u. u.out ≤ u.split) s.views id w k.counted.out (omega (arith, none));
          split = each_set (λ u. u.split ≤ most_split u.role) s.views id w k.counted.split (omega arith);
        };
        few = record {
          each = each_set (λ u. count_from nets u.drawn ≤ most_late u u.role) s.views id w k.few.each (omega arith);
          spent = each_set (λ u. u.role ≡ Spent → u.drawn ≡ []) s.views id w k.few.spent (λ e. refl);
          all =
              let t = total_set (λ (u : View). count_from nets u.drawn) s.views id v w there in
              let e = late_alone a s k id v there first none in
              let d = k.few.all in
              omega (arith, t, e, d);
        };
      }
