use Rattle.std.proofs.Common.{sym, subst}
use Rattle.std.specs.List.{All, Contains}
use Rattle.link_pins.specs.Timed.{TimedPlace}
use Rattle.link_pins.proofs.related.PinGroup.of.Goals as goal

pub count_pins-requires-clause-all : goal.count_pins-requires-clause-all
count_pins-requires-clause-all c =
    subst (λ l. All (λ (r : TimedPlace). Contains l r.1) c.in_ok-related.related.items) (sym c.deref-2.ensures.value) c.in_ok-pins.ensures.all

pub count_pins-requires-clause-rising : goal.count_pins-requires-clause-rising
count_pins-requires-clause-rising c = rw c.deref-2.ensures.value c.in_ok-pins.ensures.rising

pub count_pins-requires-clause-pins : goal.count_pins-requires-clause-pins
count_pins-requires-clause-pins c = rw (c.deref_mut.ensures.value, c.deref-2.ensures.value) (rw c.deref.ensures.value at c.in_ok-counts.ensures.pins)

pub count_pins-requires-clause-none : goal.count_pins-requires-clause-none
count_pins-requires-clause-none c = rw c.deref_mut.ensures.value c.in_ok-counts.ensures.none
