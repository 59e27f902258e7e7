use Rattle.std.proofs.Common.{refl, subst, ◌∙◌, arith, ◌<◌, sym, ap, length}
use Rattle.net_eval.proofs.Steady.{steady_all}
use Rattle.chaos_core.specs.declared.setting.Setting.{Setting}
use Rattle.chaos_core.specs.Memories.{AreKept}
use Rattle.chaos_core.proofs.Starting.{kept_fits}
use Rattle.chaos_core.proofs.Settling.{closed_from, steady_from, fits_under}
use Rattle.window_words.specs.declared.view.View.{View}
use Rattle.xt_model.specs.Parts.{Parts}
use Rattle.chaos_run.proofs.look.look.Goals as goal

pub closed_from_ends-requires-clause-within : goal.closed_from_ends-requires-clause-within
closed_from_ends-requires-clause-within g c = λ _ _.
    let a = c.args.board.now.setting in
    let v : View = c.args.first.now.view in
    let base = kept_fits v.setting v.seen c.load_all.new.windows c.load_all.ensures.kept c.load_all.ensures.numbers c.load_all.ensures.range in
    (fits_under a v.setting c.args.design.now a.way c.load_all.new.windows c.requires.own.setting c.requires.design refl base).within

pub returns-clause-fits : goal.returns-clause-fits
returns-clause-fits g c =
    let a = c.args.board.now.setting in
    let v : View = c.args.first.now.view in
    let base = kept_fits v.setting v.seen c.load_all.new.windows c.load_all.ensures.kept c.load_all.ensures.numbers c.load_all.ensures.range in
    fits_under a v.setting c.args.design.now a.way c.load_all.new.windows c.requires.own.setting c.requires.design refl base

pub closed_from_ends-requires-clause-look : goal.closed_from_ends-requires-clause-look
closed_from_ends-requires-clause-look g c = λ _ _.
    let count = c.requires.count in
    record {
      windows = record { count = c.load_all.ensures.count ∙ count; in_range = c.load_all.ensures.range };
      count = c.unmark.ensures.count ∙ c.requires.marks;
      steady = λ net there marked. absurd (c.unmark.ensures.none net marked);
    }

pub returns-clause-kept : goal.returns-clause-kept
returns-clause-kept g c = subst (λ (a : Setting). AreKept a c.args.first.now.view.seen) c.requires.own.setting c.load_all.ensures.kept

pub returns-clause-closed : goal.returns-clause-closed
returns-clause-closed g c =
    let d = c.args.design.now in
    let words = c.args.first.now.view.seen in
    let v = c.load_all.new.windows in
    let range = c.load_all.ensures.range in
    let is = c.load_all.ensures.numbers in (
      λ t. closed_from d words v range is (steady_all d v (c.load_all.ensures.count ∙ c.requires.count) (c.closed_from_ends.ensures.closed.0 t)),
      λ k. c.closed_from_ends.ensures.closed.1 (λ n high. record { fixed = λ e. steady_from d words v range is k n e }),
    )

pub returns-clause-unmoved : goal.returns-clause-unmoved
returns-clause-unmoved g c = let u = c.load_all.ensures.unmoved.count in let b = c.requires.before in let n = c.requires.unmoved in omega (arith, u, b, n)

pub load_all-requires-clause-own : goal.load_all-requires-clause-own
load_all-requires-clause-own g c = c.requires.own

pub load_all-requires-clause-alone : goal.load_all-requires-clause-alone
load_all-requires-clause-alone g c = c.requires.alone

pub closed_from_ends-requires-clause-groups : goal.closed_from_ends-requires-clause-groups
closed_from_ends-requires-clause-groups g c = λ _ _. c.requires.groups

pub returns-clause-own : goal.returns-clause-own
returns-clause-own g c = c.load_all.ensures.own

pub returns-clause-view : goal.returns-clause-view
returns-clause-view g c = c.load_all.ensures.view

pub returns-clause-numbers : goal.returns-clause-numbers
returns-clause-numbers g c = c.load_all.ensures.numbers

pub returns-clause-look : goal.returns-clause-look
returns-clause-look g c = c.closed_from_ends.ensures.look

pub returns-clause-rested : goal.returns-clause-rested
returns-clause-rested g c = λ some. c.load_all.ensures.rested (subst (λ (x : Parts). 0 < length x.nets) (sym (ap (λ (x : Setting). x.design) c.requires.own.setting ∙ c.requires.design)) some)

pub load_all-requires-clause-count : goal.load_all-requires-clause-count
load_all-requires-clause-count g c = c.requires.count ∙ sym (ap (λ (x : Setting). length x.design.nets) c.requires.own.setting ∙ ap (λ (x : Parts). length x.nets) c.requires.design)

pub load_all-requires-clause-before : goal.load_all-requires-clause-before
load_all-requires-clause-before g c = c.requires.before ∙ sym c.requires.count

pub load_all-requires-clause-unmoved : goal.load_all-requires-clause-unmoved
load_all-requires-clause-unmoved g c = c.requires.unmoved ∙ sym c.requires.count
