-- Both ranges are over one box.
use Rattle.std.proofs.Common.{◌∙◌, refl, sym, subst, List, ℤ, to_z-of_z}
use Rattle.xt_model.specs.Tables.{IsIndex}
use Rattle.table_box.specs.Monotone.{IsSegment}
use Rattle.table_box.specs.Stretches.{IsStretch}
use Rattle.table_box.proofs.Places.{range_moved, same_box}
use Rattle.table_box.proofs.pair.TablePair.over_slews.Goals as goal

pub monotone_range-requires-clause-slews : goal.monotone_range-requires-clause-slews
monotone_range-requires-clause-slews c = subst (λ (xs : List ℤ). IsSegment xs c.of-slews.result) c.slews.ensures.value c.of-slews.ensures.on_axis

pub monotone_range-requires-then-self-clause-monotone : goal.monotone_range-requires-then-self-clause-monotone
monotone_range-requires-then-self-clause-monotone c = (c.self.invariant.monotone c.if-self.true).second

pub monotone_range-requires-then-self-clause-slews : goal.monotone_range-requires-then-self-clause-slews
monotone_range-requires-then-self-clause-slews c =
    subst (λ (xs : List ℤ). IsSegment xs c.of-slews.result) (c.slews.ensures.value ∙ (c.self.invariant.monotone c.if-self.true).slews) c.of-slews.ensures.on_axis

pub monotone_range-requires-then-self-clause-loads : goal.monotone_range-requires-then-self-clause-loads
monotone_range-requires-then-self-clause-loads c =
    subst (λ (xs : List ℤ). IsStretch xs c.self.inside.loads) (c.self.invariant.monotone c.if-self.true).loads c.self.invariant.on_axis

pub returns-then-self-clause-first : goal.returns-then-self-clause-first
returns-then-self-clause-first c =
    let e = c.monotone_range.ensures in
    rw (← c.self.view_is)
    (range_moved c.self.inside.first.now _ _ c.monotone_range.result
    (same_box _ _ _ _ _ _ _ _ (c.of-slews.ensures.from ∙ to_z-of_z c.ranges.s0) (c.of-slews.ensures.to ∙ to_z-of_z c.ranges.s1) refl refl)
    (record { least = e.least; greatest = e.greatest; least_number = e.least_number; greatest_number = e.greatest_number }))

pub returns-then-self-clause-second : goal.returns-then-self-clause-second
returns-then-self-clause-second c =
    let e = c.monotone_range-then-self.ensures in
    rw (← c.self.view_is)
    (range_moved c.self.inside.second.now _ _ c.monotone_range-then-self.result
    (same_box _ _ _ _ _ _ _ _ (c.of-slews.ensures.from ∙ to_z-of_z c.ranges.s0) (c.of-slews.ensures.to ∙ to_z-of_z c.ranges.s1) refl refl)
    (record { least = e.least; greatest = e.greatest; least_number = e.least_number; greatest_number = e.greatest_number }))

pub of-slews-requires-clause-index : goal.of-slews-requires-clause-index
of-slews-requires-clause-index c = subst IsIndex (sym c.slews.ensures.value) c.slews.ensures.sound.slews

pub of-slews-requires-clause-ordered : goal.of-slews-requires-clause-ordered
of-slews-requires-clause-ordered c = rw (to_z-of_z c.ranges.s0, to_z-of_z c.ranges.s1) c.requires.slews

pub monotone_range-requires-clause-table : goal.monotone_range-requires-clause-table
monotone_range-requires-clause-table c = c.self.invariant.first

pub monotone_range-requires-clause-monotone : goal.monotone_range-requires-clause-monotone
monotone_range-requires-clause-monotone c = (c.self.invariant.monotone c.if-self.true).first

pub monotone_range-requires-clause-loads : goal.monotone_range-requires-clause-loads
monotone_range-requires-clause-loads c = c.self.invariant.on_axis

pub monotone_range-requires-then-self-clause-table : goal.monotone_range-requires-then-self-clause-table
monotone_range-requires-then-self-clause-table c = c.self.invariant.second

pub over_any_slews-requires : goal.over_any_slews-requires
over_any_slews-requires c = record { slews = rw (to_z-of_z c.ranges.s0, to_z-of_z c.ranges.s1) c.requires.slews }

pub returns-clause-first : goal.returns-clause-first
returns-clause-first c = rw (to_z-of_z c.ranges.s0, to_z-of_z c.ranges.s1) at c.over_any_slews.ensures.first

pub returns-clause-second : goal.returns-clause-second
returns-clause-second c = rw (to_z-of_z c.ranges.s0, to_z-of_z c.ranges.s1) at c.over_any_slews.ensures.second
