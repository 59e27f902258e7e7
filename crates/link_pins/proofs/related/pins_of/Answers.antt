use Rattle.std.proofs.Common.{◌∙◌, map, ap, arith}
use Rattle.std.proofs.lemmas.List.{take_all}
use Rattle.std.proofs.lemmas.List.Filters.{dedup_is}
use Rattle.link_pins.specs.Timed.{TimedPlace}
use Rattle.link_pins.proofs.IndexLaws.{pin_next, pins_sorted, sorted_rising}
use Rattle.link_pins.proofs.related.pins_of.Goals as goal

pub loop-place-preserved : goal.loop-place-preserved
loop-place-preserved c = pin_next c.args.related.now.items c.loop-place.place _ c.loop-place.pins.items c.push.new.self.items c.get.ensures c.loop-place.invariant c.in_ok-push.ensures.items

pub returns-clause-rising : goal.returns-clause-rising
returns-clause-rising c = sorted_rising _ _ c.sort_unstable.ensures.sorted (c.shrink_to_fit.ensures.items ∙ dedup_is _ _ _ c.dedup.ensures.filtered)

pub returns-clause-all : goal.returns-clause-all
returns-clause-all c =
    pins_sorted c.args.related.now.items _ _ _ (c.loop-place.invariant ∙ ap (map (λ (r : TimedPlace). r.1)) (take_all c.loop-place.place c.args.related.now.items (omega (arith, c.loop-place-test.false, c.len-place-end.ensures))))
    c.sort_unstable.ensures.permutation c.sort_unstable.ensures.sorted (c.shrink_to_fit.ensures.items ∙ dedup_is _ _ _ c.dedup.ensures.filtered)
