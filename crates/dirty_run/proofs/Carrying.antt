-- A round: every net was taken, and the words are at or past what the operator makes of those before.
use Rattle.std.proofs.Common.{◌≡◌, ◌⊎◌, ℕ, ◌+◌, ◌*◌, ◌%◌, ◌<◌, Bool, false, inl, inr, sym, ap, subst, ◌∙◌, List, [], length, Contains, arith}
use Rattle.xt_model.specs.Levels.{IsOrder}
use Rattle.xt_meaning.specs.Barrier.{IsBoundNoFurther}
use Rattle.xt_meaning.specs.Words.{bounds_in, onward, AreNoFurther}
use Rattle.xt_meaning.proofs.Passes.{all_turned}
use Rattle.xt_meaning.proofs.Steps.{bound_trans}
use Rattle.chaos_core.specs.declared.setting.Setting.{Setting}
use Rattle.chaos_core.specs.Boards.{nets_of, Knowledge}
use Rattle.chaos_core.specs.Memories.{AreKept}
use Rattle.chaos_core.specs.Rounds.{HasCarried}
use Rattle.chaos_core.proofs.Carrying.{all_words}
use Rattle.window_words.specs.Views.{times}
use Rattle.window_words.specs.Rule.{once_below}
use Rattle.window_words.proofs.Drawn.{all_drawn}
use Rattle.dirty_words.specs.declared.view.DirtyView.{DirtyView}
use Rattle.dirty_words.specs.Views.{with_anew}
use Rattle.dirty_words.specs.Rule.{IsPast}
use Rattle.dirty_words.proofs.Nets.{stays_all}
use Rattle.dirty_run.specs.Visits.{HasMoved, HasPassed}
use Rattle.dirty_run.specs.Turns.{with_out, HasGathered, HasLooked}

module _ (order : List ℕ) (v0 v1 : DirtyView) (any : Bool) (count : ℕ) (w : DirtyView) (look : HasLooked v0 (nets_of v0.base.setting) any v1) (g : HasGathered order count (with_out (with_anew v1) count) w) (some : 0 < count)
    (o : IsOrder v0.base.setting.design.nets order) (next : ℕ) (drawn : (x : ℕ) → times x g.drawn ≡ once_below next x) where
  -- the first pass as the workers began
  abbrev v' : DirtyView
  v' = with_out (with_anew v1) count

  setting_is : v1.base.setting ≡ v0.base.setting
  setting_is = ap (λ (x : DirtyView). x.base.setting) look.after

  seen_is : v1.base.seen ≡ v0.base.seen
  seen_is = ap (λ (x : DirtyView). x.base.seen) look.after

  -- the net at each place was visited
  visited_net : (net : ℕ) → net < nets_of v0.base.setting → Contains g.taken net × (Contains v'.found net → HasPassed v' g.seen net)
  visited_net net inside =
      let t = all_turned v0.base.setting.design.nets o.0 order o.2 net inside in
      let c = o.2.count in
      let b = t.before in
      let last = g.last some in
      let e : nets_of v'.base.setting ≡ nets_of v0.base.setting = ap nets_of setting_is in
      let below : t.place < nets_of v'.base.setting = omega (arith, c, b, e) in
      let has = all_drawn g.drawn next (nets_of v'.base.setting) last.0 t.place drawn last.1 last.2 below in
      subst (λ n. Contains g.taken n × (Contains v'.found n → HasPassed v' g.seen n)) t.there (g.visited t.place has below)

  pub all_taken : (net : ℕ) → net < nets_of v0.base.setting → Contains g.taken net
  all_taken net inside = (visited_net net inside).0

  -- a net that was clear was past before
  passed_clear : (net : ℕ) → IsPast v0.base.setting v0.base.seen net → HasPassed v' g.seen net
  passed_clear net past i lt =
      let a = v'.base.setting in
      let x = 8 * net + i in
      let par : x % 2 ≡ i % 2 = omega arith in
      let P : Setting → List ℕ → Type 0 = λ b xs. IsPast b xs net in
      let here : IsPast a v'.base.seen net = subst (λ b. P b v'.base.seen) (sym setting_is) (subst (P v0.base.setting) (sym seen_is) past) in
      bound_trans a.way (i % 2) (onward a.design (bounds_in v'.base.seen) x) (bounds_in v'.base.seen x) (bounds_in g.seen x) (here i lt)
      (subst (λ s. IsBoundNoFurther a.way s (bounds_in v'.base.seen x) (bounds_in g.seen x)) par (g.onward x))

  passed_net : (net : ℕ) → net < nets_of v0.base.setting → HasPassed v' g.seen net
  passed_net net inside = elim (look.each net inside) [
    | inl h ↦
        let P : DirtyView → Type 0 = λ y. Contains y.found net × (Contains y.taken net → ⊥) in
        let own = subst P (sym look.after) h in
        (visited_net net inside).1 (stays_all net v1.taken v1.found own.1 own.0)
    | inr h ↦ passed_clear net h.1
  ]

  pub round_carried : AreKept v0.base.setting g.seen → HasCarried v0.base.setting v0.base.seen g.seen
  round_carried kept =
      let a = v0.base.setting in
      let k : Knowledge = record { setting = v'.base.setting; home = []; seen = v'.base.seen; drawn = []; made = 0; late = 0; alone = false } in
      let l : Knowledge = record { setting = v'.base.setting; home = []; seen = g.seen; drawn = []; made = 0; late = 0; alone = false } in
      let many : length g.seen ≡ 8 * nets_of v'.base.setting = g.sound.count in
      let e : nets_of v'.base.setting ≡ nets_of a = ap nets_of setting_is in
      let past : AreNoFurther v'.base.setting.way (onward v'.base.setting.design (bounds_in v'.base.seen)) (bounds_in g.seen) = all_words k l many (λ net inside. passed_net net (omega (arith, inside, e))) in
      let P : Setting → List ℕ → Type 0 = λ b xs. AreNoFurther b.way (onward b.design (bounds_in xs)) (bounds_in g.seen) in
      let Q : Setting → List ℕ → Type 0 = λ b xs. AreNoFurther b.way (bounds_in xs) (bounds_in g.seen) in
      record {
        kept = kept;
        past = subst (P a) seen_is (subst (λ b. P b v'.base.seen) setting_is past);
        onward = subst (Q a) seen_is (subst (λ b. Q b v'.base.seen) setting_is g.onward);
      }

  -- a mark that the next look finds was set because a word moved
  pub mark_moved : (net : ℕ) → net < nets_of v0.base.setting → Contains w.noted net ⊎ (Contains w.found net × (Contains w.taken net → ⊥)) → HasMoved v0.base.seen g.seen
  mark_moved net inside (inr h) =
      let taken : w.taken ≡ g.taken = ap (λ (x : DirtyView). x.taken) g.after in
      absurd (h.1 (subst (λ xs. Contains xs net) (sym taken) (all_taken net inside)))
  mark_moved net inside (inl h) =
      let noted : w.noted ≡ g.noted = ap (λ (x : DirtyView). x.noted) g.after in
      elim g.why [
        | inl same ↦
            let old : Contains v1.noted net = subst (λ xs. Contains xs net) (noted ∙ same) h in
            absurd (look.quiet net inside (subst (λ (x : DirtyView). Contains x.noted net) look.after old))
        | inr m ↦ subst (λ xs. HasMoved xs g.seen) seen_is m
      ]
