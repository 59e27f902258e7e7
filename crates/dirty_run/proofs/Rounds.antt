-- A round, and the look after it.
use Rattle.std.proofs.Common.{◌≡◌, ℕ, ◌+◌, ◌*◌, ◌<◌, ◌≤◌, Bool, sym, ap, subst, ◌∙◌, List, length, Contains, arith}
use Rattle.std.specs.Prelude.{IsTrue, IsFalse}
use Rattle.xt_model.specs.Levels.{IsOrder}
use Rattle.xt_model.specs.Parts.{Parts}
use Rattle.chaos_core.specs.declared.setting.Setting.{Setting}
use Rattle.chaos_core.specs.Boards.{nets_of}
use Rattle.chaos_core.specs.Memories.{AreKept}
use Rattle.chaos_core.specs.Rounds.{AreClosed, HasCarried}
use Rattle.window_words.specs.declared.view.View.{View}
use Rattle.window_words.specs.Views.{times}
use Rattle.window_words.specs.Rule.{once_below}
use Rattle.window_words.specs.Steps.{IsRested}
use Rattle.window_words.proofs.Drawn.{few_below}
use Rattle.dirty_words.specs.declared.view.DirtyView.{DirtyView}
use Rattle.dirty_words.specs.Views.{with_anew}
use Rattle.dirty_run.specs.Visits.{HasMoved}
use Rattle.dirty_run.specs.Turns.{with_out, HasGathered, HasLooked}
use Rattle.dirty_run.proofs.Carrying.{round_carried, mark_moved}

-- the last look: from some view to this one, over all nets
pub record HasLast (any : Bool) (w : DirtyView) : Type 0 where
  pub before : DirtyView
  pub look : HasLooked before (nets_of before.base.setting) any w

pub last_look : (v : DirtyView) (count : ℕ) (any : Bool) (w : DirtyView) → count ≡ nets_of v.base.setting → HasLooked v count any w → HasLast any w
last_look v count any w all look = record { before = v; look = subst (λ n. HasLooked v n any w) all look }

-- where a mark is found, there are nets
pub some_nets : (any : Bool) (w : DirtyView) → HasLast any w → IsTrue any → 0 < nets_of w.base.setting
some_nets any w last found =
    let y = last.look.why found in
    let b = y.1 in
    let e : nets_of w.base.setting ≡ nets_of last.before.base.setting = ap (λ (x : DirtyView). nets_of x.base.setting) last.look.after in
    omega (arith, b, e)

-- where none is found, each net is clear
pub all_clear : (any : Bool) (w : DirtyView) (net : ℕ) → HasLast any w → IsFalse any → net < nets_of w.base.setting → Contains w.clear net
all_clear any w net last none inside =
    let e : nets_of w.base.setting ≡ nets_of last.before.base.setting = ap (λ (x : DirtyView). nets_of x.base.setting) last.look.after in
    let clear : w.clear ≡ last.look.clear = ap (λ (x : DirtyView). x.clear) last.look.after in
    subst (λ xs. Contains xs net) (sym clear) (last.look.none none net (omega (arith, inside, e)))

module _ (order : List ℕ) (any : Bool) (v w u : DirtyView) (count : ℕ) (more : Bool) (last : HasLast any v) (g : HasGathered order count (with_out (with_anew v) count) w) (some : 0 < count) (o : IsOrder v.base.setting.design.nets order)
    (rest : IsRested w.base) (nets : ℕ) (all : nets ≡ nets_of v.base.setting) (look : HasLooked w nets more u) where
  base_is : v.base ≡ last.before.base
  base_is = ap (λ (x : DirtyView). x.base) last.look.after

  end_is : u.base ≡ w.base
  end_is = ap (λ (x : DirtyView). x.base) look.after

  setting_is : w.base.setting ≡ v.base.setting
  setting_is = ap (λ (x : DirtyView). x.base.setting) g.after

  seen_is : w.base.seen ≡ g.seen
  seen_is = ap (λ (x : DirtyView). x.base.seen) g.after

  later_is : u.base.seen ≡ g.seen
  later_is = ap (λ (b : View). b.seen) end_is ∙ seen_is

  drawn : (x : ℕ) → times x g.drawn ≡ once_below rest.next x
  drawn = subst (λ (xs : List ℕ). (x : ℕ) → times x xs ≡ once_below rest.next x) (ap (λ (x : DirtyView). x.base.drawn) g.after) rest.drawn

  order_here : IsOrder last.before.base.setting.design.nets order
  order_here = subst (λ (b : View). IsOrder b.setting.design.nets order) base_is o

  kept : AreKept last.before.base.setting g.seen
  kept = subst (λ (a : Setting). AreKept a g.seen) (setting_is ∙ ap (λ (b : View). b.setting) base_is) (subst (AreKept w.base.setting) seen_is rest.kept)

  pub turn_carries : HasCarried v.base.setting v.base.seen u.base.seen
  turn_carries =
      let c = round_carried order last.before v any count w last.look g some order_here rest.next drawn kept in
      subst (HasCarried v.base.setting v.base.seen) (sym later_is) (subst (λ (b : View). HasCarried b.setting b.seen g.seen) (sym base_is) c)

  pub turn_moves : IsTrue more → HasMoved v.base.seen u.base.seen
  turn_moves found =
      let y = look.why found in
      let lt = y.1 in
      let e : nets_of v.base.setting ≡ nets_of last.before.base.setting = ap (λ (b : View). nets_of b.setting) base_is in
      let m = mark_moved order last.before v any count w last.look g some order_here rest.next drawn y.0 (omega (arith, lt, all, e)) y.2 in
      subst (HasMoved v.base.seen) (sym later_is) (subst (λ (b : View). HasMoved b.seen g.seen) (sym base_is) m)

  pub turn_made : u.base.made ≤ v.base.made + 8 * nets_of v.base.setting
  turn_made =
      let few = few_below g.drawn rest.next (nets_of v.base.setting) drawn in
      let made : u.base.made ≡ g.made = ap (λ (b : View). b.made) end_is ∙ ap (λ (x : DirtyView). x.base.made) g.after in
      let most = g.most in
      omega (arith, few, made, most)

  pub turn_split : u.base.split ≡ count
  turn_split = let e : u.base.split ≡ 0 + count = ap (λ (b : View). b.split) end_is ∙ ap (λ (x : DirtyView). x.base.split) g.after in omega (arith, e)

-- ---- what is known after a look, of the board's run
module _ (a : Setting) (d : Parts) (v w : DirtyView) (nets : ℕ) (any : Bool) (own : v.base.setting ≡ a) (design : a.design ≡ d) (look : HasLooked v nets any w) where
  after_is : w.base ≡ v.base
  after_is = ap (λ (x : DirtyView). x.base) look.after

  pub look_seen : w.base.seen ≡ v.base.seen
  look_seen = ap (λ (b : View). b.seen) after_is

  pub look_made : w.base.made ≡ v.base.made
  look_made = ap (λ (b : View). b.made) after_is

  pub look_nets : nets_of v.base.setting ≡ length d.nets
  look_nets = ap nets_of own ∙ ap (λ (x : Parts). length x.nets) design

  pub look_kept : AreKept v.base.setting v.base.seen → AreKept a w.base.seen
  look_kept kept = subst (AreKept a) (sym look_seen) (subst (λ (x : Setting). AreKept x v.base.seen) own kept)

  pub look_closed : (IsFalse any → AreClosed v.base.setting.design v.base.seen) → IsFalse any → AreClosed d w.base.seen
  look_closed closed none =
      let here : AreClosed d v.base.seen = subst (λ (x : Parts). AreClosed x v.base.seen) (ap (λ (x : Setting). x.design) own ∙ design) (closed none) in
      subst (AreClosed d) (sym look_seen) here
