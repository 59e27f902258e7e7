use Rattle.std.proofs.Common.{◌≡◌, ◌<◌, refl, sym, ap, subst, ◌∙◌, List, length, arith}
use Rattle.std.specs.Prelude.{Bool}
use Rattle.xt_model.specs.declared.quad.Pair.{Pair}
use Rattle.xt_model.specs.Parts.{Parts}
use Rattle.xt_model.specs.Sound.{IsSound}
use Rattle.xt_meaning.specs.Barrier.{IsFittingStart}
use Rattle.xt_meaning.specs.Words.{numbers_of}
use Rattle.net_eval.proofs.Steady.{steady_all}
use Rattle.chaos_core.specs.Looks.{AreDecided, IsLook}
use Rattle.chaos_core.specs.Rounds.{HasCarried}
use Rattle.chaos_core.proofs.LookLaws.{steady_kept}
use Rattle.window_words.specs.Steps.{IsRested}
use Rattle.chaos_core.specs.declared.setting.Setting.{Setting}
use Rattle.chaos_core.specs.Memories.{AreKept}
use Rattle.chaos_core.proofs.Starting.{kept_fits}
use Rattle.chaos_core.proofs.Settling.{closed_from, steady_from, fits_under}
use Rattle.window_words.specs.declared.view.View.{View}
use Rattle.chaos_run.proofs.look.look_again.Goals as goal

pub closed_from_ends-requires-clause-within : goal.closed_from_ends-requires-clause-within
closed_from_ends-requires-clause-within g c = λ _ _.
    let a = c.args.board.now.setting in
    let v : View = c.args.first.now.view in
    let base = kept_fits v.setting v.seen c.load_all.new.windows c.load_all.ensures.kept c.load_all.ensures.numbers c.load_all.ensures.range in
    (fits_under a v.setting c.args.design.now a.way c.load_all.new.windows c.requires.own.setting c.requires.design refl base).within

pub returns-clause-fits : goal.returns-clause-fits
returns-clause-fits g c =
    let a = c.args.board.now.setting in
    let v : View = c.args.first.now.view in
    let base = kept_fits v.setting v.seen c.load_all.new.windows c.load_all.ensures.kept c.load_all.ensures.numbers c.load_all.ensures.range in
    fits_under a v.setting c.args.design.now a.way c.load_all.new.windows c.requires.own.setting c.requires.design refl base

-- a net of which the round did not move what decides it is steady after it
steady_after : (board : Setting) (v0 : View) (d : Parts) (before after : List Pair) (marks : List Bool) → v0.setting ≡ board → board.design ≡ d → IsFittingStart board.way d before → IsFittingStart board.way d after
    → numbers_of after ≡ v0.seen → (IsRested v0 → HasCarried board (numbers_of before) v0.seen) → (0 < length d.nets → IsRested v0) → AreDecided d before after marks → IsLook d after marks
steady_after board v0 d before after marks same own fits later numbers carried rested decided = record {
  windows = later.windows;
  count = decided.count;
  steady = λ net there marked. steady_kept board d board.way before after (numbers_of before) v0.seen own refl fits later refl numbers (carried (rested (omega (arith, there)))) net (decided.alike net marked);
}

pub closed_from_ends-requires-clause-look : goal.closed_from_ends-requires-clause-look
closed_from_ends-requires-clause-look g c = λ _ _.
    let a = c.args.board.now.setting in
    let v : View = c.args.first.now.view in
    let d = c.args.design.now in
    let base = kept_fits v.setting v.seen c.load_all.new.windows c.load_all.ensures.kept c.load_all.ensures.numbers c.load_all.ensures.range in
    let later = fits_under a v.setting d a.way c.load_all.new.windows c.requires.own.setting c.requires.design refl base in
    let rested : 0 < length d.nets → IsRested v = λ some. c.load_all.ensures.rested (subst (λ (x : Parts). 0 < length x.nets) (sym (ap (λ (x : Setting). x.design) c.requires.own.setting ∙ c.requires.design)) some) in
    let P : List Pair → Type 0 = λ before. AreDecided d before c.load_all.new.windows c.mark_decided.new.marks in
    steady_after a v d c.args.windows.now c.load_all.new.windows c.mark_decided.new.marks c.requires.own.setting c.requires.design c.requires.fits later c.load_all.ensures.numbers c.requires.carried rested
    (subst P c.swap.ensures.x_after c.mark_decided.ensures.decided)

pub returns-clause-kept : goal.returns-clause-kept
returns-clause-kept g c = subst (λ (a : Setting). AreKept a c.args.first.now.view.seen) c.requires.own.setting c.load_all.ensures.kept

pub returns-clause-closed : goal.returns-clause-closed
returns-clause-closed g c =
    let d = c.args.design.now in
    let words = c.args.first.now.view.seen in
    let v = c.load_all.new.windows in
    let range = c.load_all.ensures.range in
    let is = c.load_all.ensures.numbers in (
      λ t. closed_from d words v range is (steady_all d v (c.load_all.ensures.count ∙ (ap length c.swap.ensures.y_after ∙ c.requires.before)) (c.closed_from_ends.ensures.closed.0 t)),
      λ k. c.closed_from_ends.ensures.closed.1 (λ n high. record { fixed = λ e. steady_from d words v range is k n e }),
    )

pub load_all-requires-clause-count : goal.load_all-requires-clause-count
load_all-requires-clause-count g c =
    let a = ap length c.swap.ensures.y_after in
    let b = c.requires.before in
    let n = ap (λ (x : Setting). length x.design.nets) c.requires.own.setting in
    let d = ap (λ (x : Parts). length x.nets) c.requires.design in
    omega (arith, a, b, n, d)

pub load_all-requires-clause-before : goal.load_all-requires-clause-before
load_all-requires-clause-before g c =
    let a = ap length c.swap.ensures.x_after in
    let b = ap length c.swap.ensures.y_after in
    let n = c.requires.before in
    let m = c.requires.fits.windows.count in
    omega (arith, a, b, n, m)

pub load_all-requires-clause-unmoved : goal.load_all-requires-clause-unmoved
load_all-requires-clause-unmoved g c = let a = ap length c.swap.ensures.y_after in let b = c.requires.before in let n = c.requires.unmoved in omega (arith, a, b, n)

pub mark_decided-requires-clause-sound : goal.mark_decided-requires-clause-sound
mark_decided-requires-clause-sound g c = λ _ _. subst IsSound (ap (λ (x : Setting). x.design) c.requires.own.setting ∙ c.requires.design) c.load_all.ensures.kept.seen.sound

pub mark_decided-requires-clause-before : goal.mark_decided-requires-clause-before
mark_decided-requires-clause-before g c = λ _ _. ap length c.swap.ensures.x_after ∙ c.requires.fits.windows.count

pub mark_decided-requires-clause-after : goal.mark_decided-requires-clause-after
mark_decided-requires-clause-after g c = λ _ _. c.load_all.ensures.count ∙ (ap length c.swap.ensures.y_after ∙ c.requires.before)

pub returns-clause-before : goal.returns-clause-before
returns-clause-before g c = let a = ap length c.swap.ensures.x_after in let m = c.requires.fits.windows.count in let n = c.requires.before in omega (arith, a, m, n)

pub returns-clause-unmoved : goal.returns-clause-unmoved
returns-clause-unmoved g c =
    let a = ap length c.swap.ensures.x_after in
    let m = c.requires.fits.windows.count in
    let u = c.load_all.ensures.unmoved.count in
    let k = c.mark_decided.ensures.unmoved in
    let n = c.requires.unmoved in
    omega (arith, a, m, u, k, n)

pub load_all-requires-clause-own : goal.load_all-requires-clause-own
load_all-requires-clause-own g c = c.requires.own

pub load_all-requires-clause-alone : goal.load_all-requires-clause-alone
load_all-requires-clause-alone g c = c.requires.alone

pub closed_from_ends-requires-clause-groups : goal.closed_from_ends-requires-clause-groups
closed_from_ends-requires-clause-groups g c = λ _ _. c.requires.groups

pub returns-clause-own : goal.returns-clause-own
returns-clause-own g c = c.load_all.ensures.own

pub returns-clause-view : goal.returns-clause-view
returns-clause-view g c = c.load_all.ensures.view

pub returns-clause-numbers : goal.returns-clause-numbers
returns-clause-numbers g c = c.load_all.ensures.numbers

pub returns-clause-look : goal.returns-clause-look
returns-clause-look g c = c.closed_from_ends.ensures.look

pub returns-clause-rested : goal.returns-clause-rested
returns-clause-rested g c = λ some. c.load_all.ensures.rested (subst (λ (x : Parts). 0 < length x.nets) (sym (ap (λ (x : Setting). x.design) c.requires.own.setting ∙ c.requires.design)) some)

pub mark_decided-requires-clause-unmoved : goal.mark_decided-requires-clause-unmoved
mark_decided-requires-clause-unmoved g c = λ _ _. c.load_all.ensures.unmoved

pub mark_decided-requires-clause-marks : goal.mark_decided-requires-clause-marks
mark_decided-requires-clause-marks g c = λ _ _. c.requires.marks
