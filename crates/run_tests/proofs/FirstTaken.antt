-- A pass may take the net at the place that it drew first.
use Rattle.std.proofs.Common.{◌≡◌, ℕ, ◌<◌, sym, ap, subst, ◌∙◌, List, [], length, Contains, arith}
use Rattle.std.specs.Prelude.{slice_index}
use Rattle.std.proofs.lemmas.List.Elements.{Contains-push}
use Rattle.xt_model.specs.Parts.{Parts}
use Rattle.xt_model.specs.Levels.{IsOrder}
use Rattle.chaos_core.specs.Boards.{nets_of}
use Rattle.chaos_core.proofs.Places.{order_there}
use Rattle.chaos_core.proofs.Stages.{one_order}
use Rattle.dirty_words.specs.declared.view.DirtyView.{DirtyView}
use Rattle.dirty_words.specs.Views.{with_drawn}
use Rattle.dirty_words.specs.Boards.{IsFree}
use Rattle.dirty_words.specs.Steps.{CanTake}

pub can_take : (d : Parts) (v w : DirtyView) (order : List ℕ) (number : ℕ) → IsOrder d.nets order → number < length order → v.base.setting.design ≡ d → IsFree v → v.taken ≡ [] → w ≡ with_drawn v number
    → CanTake w (slice_index order number)
can_take d v w order number o lt own free none after =
    let count = o.2.count in
    let lows : number < length d.nets = omega (arith, count, lt) in
    let there : slice_index order number < length d.nets = order_there d order number o lows in
    let design : w.base.setting.design ≡ d = ap (λ (x : DirtyView). x.base.setting.design) after ∙ own in
    let nets : nets_of w.base.setting ≡ length d.nets = ap (λ (x : Parts). length x.nets) design in
    record {
      there = omega (arith, there, nets);
      free = subst IsFree (sym after) (record { flight = free.flight; owed = free.owed });
      drew = record {
        number = number;
        drawn = subst (λ (x : DirtyView). Contains x.base.drawn number) (sym after) (Contains-push v.base.drawn number);
        below = omega (arith, lows, nets);
        place = λ other p. ap (λ (xs : List ℕ). slice_index xs number) (one_order d.nets other order (subst (λ (x : Parts). IsOrder x.nets other) design p) o);
      };
      fresh = λ c.
          let taken : w.taken ≡ [] = ap (λ (x : DirtyView). x.taken) after ∙ none in
          let k = (subst (λ (xs : List ℕ). Contains xs (slice_index order number)) taken c).1 in
          absurd (omega (arith, k));
    }
