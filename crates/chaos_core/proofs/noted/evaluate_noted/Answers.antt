use Rattle.std.proofs.Common.{◌*◌, ◌∙◌, refl, ap}
use Rattle.net_eval.specs.ReadLists.{ids}
use Rattle.chaos_core.proofs.Places.{ids_count, nets_placed, nets_read, words_read}
use Rattle.chaos_core.proofs.Sparing.{evaluated_alike}
use Rattle.chaos_core.proofs.noted.evaluate_noted.Goals as goal

pub set_places-requires-clause-inside : goal.set_places-requires-clause-inside
set_places-requires-clause-inside c = nets_placed _ _ _ c.requires.loaded.nets c.requires.places

pub eval_grouped-requires-clause-words : goal.eval_grouped-requires-clause-words
eval_grouped-requires-clause-words c = words_read _ _ _ c.requires.loaded.list

pub is_decided_alike-requires-clause-read : goal.is_decided_alike-requires-clause-read
is_decided_alike-requires-clause-read c = nets_read _ _ _ c.requires.loaded.list

pub returns-then-is_decided_alike-clause-value : goal.returns-then-is_decided_alike-clause-value
returns-then-is_decided_alike-clause-value c =
    c.requires.pair
    ∙ evaluated_alike c.args.design.now (ids c.args.reads.now) c.args.before.now c.args.numbers.now c.args.net.0 (c.is_decided_alike.ensures c.if-is_decided_alike.true)

pub invariant_of-loads : goal.invariant_of-loads
invariant_of-loads c = record { whole = c.requires.before.whole ∙ ap (λ n. 8 * n) (ids_count c.args.reads.now); range = c.requires.before.range; placed = c.set_places.ensures.places }

pub invariant_of-loads-2 : goal.invariant_of-loads-2
invariant_of-loads-2 c = record { whole = c.requires.loaded.whole ∙ ap (λ n. 8 * n) (ids_count c.args.reads.now); range = c.requires.loaded.range; placed = c.set_places.ensures.places }

pub invariant_of-loads-3 : goal.invariant_of-loads-3
invariant_of-loads-3 c = record { one = refl }

pub is_decided_alike-requires-clause-there : goal.is_decided_alike-requires-clause-there
is_decided_alike-requires-clause-there c = c.requires.loaded.there

pub eval_grouped-requires-clause-groups : goal.eval_grouped-requires-clause-groups
eval_grouped-requires-clause-groups c = c.requires.groups

pub eval_grouped-requires-clause-net : goal.eval_grouped-requires-clause-net
eval_grouped-requires-clause-net c = c.requires.loaded.there

pub returns-then-is_decided_alike-clause-range : goal.returns-then-is_decided_alike-clause-range
returns-then-is_decided_alike-clause-range c = c.requires.range

pub returns-then-is_decided_alike-clause-count : goal.returns-then-is_decided_alike-clause-count
returns-then-is_decided_alike-clause-count c = c.set_places.ensures.count

pub returns-clause-range : goal.returns-clause-range
returns-clause-range c = c.eval_grouped.ensures.range

pub returns-clause-count : goal.returns-clause-count
returns-clause-count c = c.set_places.ensures.count
