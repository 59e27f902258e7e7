use Rattle.std.proofs.Common.{◌≡◌, List, sym, ap, subst, ◌∙◌}
use Rattle.xt_model.specs.declared.net.NetId.{NetId}
use Rattle.net_eval.specs.ReadLists.{ids}
use Rattle.chaos_core.specs.Tasks.{evaluated}
use Rattle.chaos_core.specs.Views.{IsLoaded}
use Rattle.dirty_run.proofs.visit.evaluate_recalled.Goals as goal

pub evaluate_noted-requires-clause-pair : goal.evaluate_noted-requires-clause-pair
evaluate_noted-requires-clause-pair g c =
    let d = c.args.run.now.design.now in
    let noted = c.in-Some.noted in
    subst (λ (rs : List NetId). noted.pair.now ≡ evaluated d (ids rs) noted.numbers.now c.args.net.0) (sym c.of-reads.ensures) c.in-Some.ensures.value

pub returns-clause-value : goal.returns-clause-value
returns-clause-value g c = c.evaluate_noted.ensures.value ∙ ap (λ (rs : List NetId). evaluated c.args.run.now.design.now (ids rs) c.args.numbers.now c.args.net.0) c.of-reads.ensures

pub recall-requires-clause-notes : goal.recall-requires-clause-notes
recall-requires-clause-notes g c = c.requires.before

pub recall-requires-clause-there : goal.recall-requires-clause-there
recall-requires-clause-there g c = c.requires.there

pub evaluate_grouped-requires-clause-groups : goal.evaluate_grouped-requires-clause-groups
evaluate_grouped-requires-clause-groups g c = c.requires.groups

pub evaluate_grouped-requires-clause-places : goal.evaluate_grouped-requires-clause-places
evaluate_grouped-requires-clause-places g c = c.requires.places

pub evaluate_grouped-requires-clause-loaded : goal.evaluate_grouped-requires-clause-loaded
evaluate_grouped-requires-clause-loaded g c = subst (λ (rs : List NetId). IsLoaded c.args.run.now.design.now (ids rs) c.args.net.0 c.args.numbers.now) (sym c.of-reads.ensures) c.requires.loaded

pub evaluate_noted-requires-clause-groups : goal.evaluate_noted-requires-clause-groups
evaluate_noted-requires-clause-groups g c = c.requires.groups

pub evaluate_noted-requires-clause-places : goal.evaluate_noted-requires-clause-places
evaluate_noted-requires-clause-places g c = c.requires.places

pub evaluate_noted-requires-clause-loaded : goal.evaluate_noted-requires-clause-loaded
evaluate_noted-requires-clause-loaded g c = subst (λ (rs : List NetId). IsLoaded c.args.run.now.design.now (ids rs) c.args.net.0 c.args.numbers.now) (sym c.of-reads.ensures) c.requires.loaded

pub evaluate_noted-requires-clause-before : goal.evaluate_noted-requires-clause-before
evaluate_noted-requires-clause-before g c = subst (λ (rs : List NetId). IsLoaded c.args.run.now.design.now (ids rs) c.args.net.0 c.in-Some.noted.numbers.now) (sym c.of-reads.ensures) c.in-Some.ensures.loaded

pub evaluate_noted-requires-clause-range : goal.evaluate_noted-requires-clause-range
evaluate_noted-requires-clause-range g c = c.in-Some.ensures.range

pub returns-clause-range : goal.returns-clause-range
returns-clause-range g c = c.evaluate_noted.ensures.range

pub returns-clause-count : goal.returns-clause-count
returns-clause-count g c = c.evaluate_noted.ensures.count

pub returns-in_default-clause-range : goal.returns-in_default-clause-range
returns-in_default-clause-range g c = c.evaluate_grouped.ensures.range

pub returns-in_default-clause-count : goal.returns-in_default-clause-count
returns-in_default-clause-count g c = c.evaluate_grouped.ensures.count

pub returns-in_default-clause-value : goal.returns-in_default-clause-value
returns-in_default-clause-value g c = c.evaluate_grouped.ensures.value ∙ ap (λ (rs : List NetId). evaluated c.args.run.now.design.now (ids rs) c.args.numbers.now c.args.net.0) c.of-reads.ensures
