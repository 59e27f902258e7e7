-- What follows from the rule: how many numbers were drawn, and what the first pass knows while none is out.
use Rattle.std.proofs.Common.{◌≡◌, ◌≢◌, ℕ, ◌+◌, ◌-◌, ◌*◌, ◌%◌, ◌<◌, ◌≤◌, inl, inr, refl, sym, ap, subst, ◌∙◌, length, ℤ, arith}
use Rattle.std.specs.List.{sum_by}
use Rattle.std.proofs.lemmas.Bool.{cases_lt, cases_eq}
use Rattle.std.proofs.lemmas.List.{get_or_past}
use Rattle.atomic_table.specs.Table.{State}
use Rattle.xt_meaning.specs.Words.{bound_in, quiet_number, number_at, bounds_in, onward, AreNoFurther}
use Rattle.chaos_core.specs.declared.setting.Setting.{Setting}
use Rattle.chaos_core.specs.Boards.{nets_of}
use Rattle.window_words.specs.declared.view.Role.{Role}
use Rattle.window_words.specs.declared.view.Role.TheVariants.{First, Other, Spent}
use Rattle.window_words.specs.declared.view.View.{View}
use Rattle.window_words.specs.Views.{IsUnspent, first_count, other_count, times, count_from}
use Rattle.window_words.specs.Rule.{IsThere, once_below, most_split, most_late, Kept}
use Rattle.window_words.specs.Steps.{IsWhole}
use Rattle.window_words.proofs.Totals.{total_rest, total_part, total_only, total_bound}
use Rattle.window_words.proofs.Views.{same_view}

-- ---- roles
pub spent_role : (r : Role) → first_count r ≡ 0 → other_count r ≡ 0 → r ≡ Spent
spent_role First h k = absurd (omega arith)
spent_role Other h k = absurd (omega arith)
spent_role Spent h k = refl

pub not_spent : (r : Role) → IsUnspent r → r ≢ Spent
not_spent r h e = subst IsUnspent e h

none_split : (r : Role) → first_count r ≡ 0 → most_split r ≡ 0
none_split First h = absurd (omega arith)
none_split Other h = refl
none_split Spent h = refl

-- a pass has drawn few late numbers, beside those that it has out
pub few_late : (r : Role) (v : View) (late : ℕ) → late ≤ most_late v r → v.out ≤ v.split → v.split ≤ most_split r → late + v.out ≤ 65 * first_count r + other_count r
few_late First v late h o s = omega arith
few_late Other v late h o s = omega arith
few_late Spent v late h o s = omega arith

module _ (a : Setting) (s : State (Unit {0}) View) (k : Kept a s) where
  -- the draw word is no more than 65 past the net count
  pub few_drawn : k.next ≤ nets_of a + 65
  few_drawn =
      let h = total_bound (λ v. count_from (nets_of a) v.drawn) (λ v. v.out) (λ v. first_count v.role) (λ v. other_count v.role) s.views
      (λ j u e. few_late u.role u (count_from (nets_of a) u.drawn) (k.few.each j u e) (k.counted.out j u e) (k.counted.split j u e)) in
      let first = k.counted.first in
      let others = k.counted.others in
      let all = k.few.all in
      omega (arith, h, first, others, all)

  -- a pass has drawn no number twice, and none at or past the draw word
  pub times_each : (id : ℕ) (v : View) → IsThere s.views id v → (x : ℕ) → times x v.drawn ≤ once_below k.next x
  times_each id v there x =
      let p = total_part (λ (u : View). times x u.drawn) s.views id v there in
      let e = k.drawn x in
      omega (arith, p, e)

  module _ (id : ℕ) (v : View) (there : IsThere s.views id v) (first : v.role ≡ First) where
    is_one : first_count v.role ≡ 1
    is_one = ap first_count first

    pub other_first : (j : ℕ) (u : View) → j ≢ id → IsThere s.views j u → first_count u.role ≡ 0
    other_first j u ne e =
        total_rest (λ (w : View). first_count w.role) s.views id j v u ne there e (k.counted.first ∙ sym is_one)

    other_out : (j : ℕ) (u : View) → j ≢ id → IsThere s.views j u → u.out ≡ 0
    other_out j u ne e =
        let none = none_split u.role (other_first j u ne e) in
        let o = k.counted.out j u e in
        let p = k.counted.split j u e in
        omega (arith, none, o, p)

    -- the first pass has out as many as there are others
    pub out_others : sum_by (λ (w : View). other_count w.role) s.views ≡ v.out
    out_others = k.counted.others ∙ total_only (λ (w : View). w.out) s.views id v there other_out

    module _ (none : v.out ≡ 0) where
      pub other_spent : (j : ℕ) (u : View) → j ≢ id → IsThere s.views j u → u.role ≡ Spent
      other_spent j u ne e =
          let p = total_part (λ (w : View). other_count w.role) s.views j u e in
          let o = out_others in
          spent_role u.role (other_first j u ne e) (omega (arith, p, o, none))

      -- the first pass has drawn all numbers below the draw word
      pub drawn_alone : (x : ℕ) → times x v.drawn ≡ once_below k.next x
      drawn_alone x =
          let f : View → ℕ = λ u. times x u.drawn in
          let others : (j : ℕ) (u : View) → j ≢ id → IsThere s.views j u → f u ≡ 0 =
          λ j u ne e. ap (times x) (k.few.spent j u e (other_spent j u ne e)) in
          sym (total_only f s.views id v there others) ∙ k.drawn x

      pub late_alone : count_from (nets_of a) v.drawn ≡ k.next - nets_of a
      late_alone =
          let f : View → ℕ = λ u. count_from (nets_of a) u.drawn in
          let others : (j : ℕ) (u : View) → j ≢ id → IsThere s.views j u → f u ≡ 0 =
          λ j u ne e. ap (count_from (nets_of a)) (k.few.spent j u e (other_spent j u ne e)) in
          sym (total_only f s.views id v there others) ∙ k.few.all

      -- and has seen each word as it is
      number_inside : (word : ℕ) → word < length k.now → number_at v.seen word ≡ number_at k.now word
      number_inside word h =
          let by = k.seen.shown word h in
          elim (cases_eq by.id id) [
            | inl e ↦
                let P : ℕ → Type 0 = λ i. IsThere s.views i by.view in
                let same : v ≡ by.view = same_view s.views id v by.view there (subst P e by.there) in
                ap (λ (u : View). number_at u.seen word) same ∙ by.seen
            | inr ne ↦ absurd (not_spent by.view.role by.unspent (other_spent by.id by.view ne by.there))
          ]

      numbers_alone : (word : ℕ) → number_at v.seen word ≡ number_at k.now word
      numbers_alone word =
          let unspent : IsUnspent v.role = subst IsUnspent (sym first) tt in
          let count = (k.seen.behind id v there unspent).count in
          elim (cases_lt word (length k.now)) [
            | inl p ↦ number_inside word p
            | inr p ↦
                let x = quiet_number (word % 2) in
                get_or_past v.seen word x (omega (arith, count, p)) ∙ sym (get_or_past k.now word x p)
          ]

      pub whole_alone : (word : ℕ) → v.setting ≡ a → IsWhole v word (number_at k.now word)
      whole_alone word same =
          let bounds : bounds_in k.now ≡ bounds_in v.seen = λ i w. bound_in (sym (numbers_alone w) i) in
          let P : (ℕ → ℤ) → Type 0 = λ f. AreNoFurther a.way f (onward a.design f) in
          let Q : Setting → Type 0 = λ b. AreNoFurther b.way (bounds_in v.seen) (onward b.design (bounds_in v.seen)) in
          record {
            exact = sym (numbers_alone word);
            fits = subst Q (sym same) (subst P bounds k.bounded.fits);
            next = k.next;
            drawn = drawn_alone;
          }
