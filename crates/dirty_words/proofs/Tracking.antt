-- Who took and who set the marks, while views and marks change.
use Rattle.std.proofs.Common.{◌≡◌, ◌≢◌, ◌⊎◌, ℕ, ◌<◌, inl, inr, sym, ap, subst, ◌∙◌, List, length, set, Contains, arith}
use Rattle.std.specs.Prelude.{slice_index}
use Rattle.std.proofs.lemmas.Bool.{cases_lt}
use Rattle.xt_model.specs.declared.net.Net.{Net}
use Rattle.xt_model.specs.Levels.{IsOrder}
use Rattle.chaos_core.specs.declared.setting.Setting.{Setting}
use Rattle.chaos_core.specs.Boards.{nets_of}
use Rattle.window_words.specs.declared.view.View.{View}
use Rattle.window_words.specs.Views.{times}
use Rattle.window_words.specs.Rule.{AreDrawn}
use Rattle.window_words.specs.Rule.{IsThere as IsThereBelow}
use Rattle.window_words.proofs.Totals.{total_part, total_rest}
use Rattle.window_words.proofs.Drawn.{some_times, once_most}
use Rattle.dirty_words.specs.declared.view.DirtyView.{DirtyView}
use Rattle.dirty_words.specs.Rule.{IsThere, IsLive, HasDrawn, HasTaken, HasFound, IsLeft}
use Rattle.dirty_words.proofs.Live.{each_live, some_on}

-- what a pass drew it has drawn with one more number
pub drawn_on : (v w : DirtyView) (net : ℕ) → w.base.setting ≡ v.base.setting → ((n : ℕ) → Contains v.base.drawn n → Contains w.base.drawn n) → HasDrawn v net → HasDrawn w net
drawn_on v w net same on h = record {
  number = h.number;
  drawn = on h.number h.drawn;
  below = subst (λ (a : Setting). h.number < nets_of a) (sym same) h.below;
  place = subst (λ (a : Setting). (order : List ℕ) → IsOrder a.design.nets order → slice_index order h.number ≡ net) (sym same) h.place;
}

pub taken_on : (v w : DirtyView) (net : ℕ) → w.base.setting ≡ v.base.setting → ((n : ℕ) → Contains v.base.drawn n → Contains w.base.drawn n) → (Contains v.taken net → Contains w.taken net) → HasTaken net v → HasTaken net w
taken_on v w net same on more h = record { drew = drawn_on v w net same on h.drew; taken = more h.taken }

pub found_on : (v w : DirtyView) (net : ℕ) → w.base.role ≡ v.base.role → (Contains v.found net → Contains w.found net) → HasFound net v → HasFound net w
found_on v w net same more h = record { first = same ∙ h.first; found = more h.found }

-- what is left stays left, where the view that changes keeps what it found and takes nothing of it
pub left_on : (views : List DirtyView) (id : ℕ) (v w : DirtyView) (net : ℕ) → IsThere views id v → IsLive v → IsLive w → (HasFound net v → HasFound net w) → (Contains w.taken net → Contains v.taken net)
    → IsLeft views net → IsLeft (set views id w) net
left_on views id v w net there live after keeps less h = record {
  found = some_on (HasFound net) views id v w there after keeps h.found;
  none = each_live (λ u. Contains u.taken net → ⊥) views id w (λ j u ne at l. h.none j u at l) (λ l c. h.none id v there live (less c));
}

-- ---- a number is drawn by one pass
-- numbers of which the order has the same net are one
pub one_place : (nets : List Net) (order : List ℕ) (m n net : ℕ) → IsOrder nets order → m < length nets → n < length nets → slice_index order m ≡ net → slice_index order n ≡ net → m ≡ n
one_place nets order m n net o hm hn em en =
    let count = o.2.count in
    elim (cases_lt m n) [
      | inl p ↦ absurd (not_twice o.0 order m n net (o.2.sorted m n p (omega (arith, count, hn))) em en)
      | inr p ↦ elim (cases_lt n m) [
        | inl q ↦ absurd (not_twice o.0 order n m net (o.2.sorted n m q (omega (arith, count, hm))) en em)
        | inr q ↦ omega (arith, p, q)
      ]
    ]
  where
    not_twice : (levels order : List ℕ) (m n net : ℕ) → ((slice_index levels (slice_index order m) < slice_index levels (slice_index order n)) ⊎ ((slice_index levels (slice_index order m) ≡ slice_index levels (slice_index order n)) × (slice_index order m < slice_index order n)))
        → slice_index order m ≡ net → slice_index order n ≡ net → ⊥
    not_twice levels order m n net (inl h) em en =
        let e = ap (λ k. slice_index levels k) (em ∙ sym en) in
        omega (arith, h, e)
    not_twice levels order m n net (inr h) em en = let k = h.1 in omega (arith, k, em, en)

-- two passes that drew one number are one
pub drawn_once : (next : ℕ) (views : List View) (i j : ℕ) (v w : View) (n : ℕ) → AreDrawn next views → IsThereBelow views i v → IsThereBelow views j w → Contains v.drawn n → Contains w.drawn n → j ≢ i → ⊥
drawn_once next views i j v w n drawn at there cv cw ne =
    let f : View → ℕ = λ u. times n u.drawn in
    let a = some_times v.drawn n cv in
    let b = some_times w.drawn n cw in
    let all = drawn n in
    let most = once_most next n in
    let part = total_part f views i v at in
    let none = total_rest f views i j v w ne at there (omega (arith, a, part, all, most)) in
    omega (arith, b, none)
