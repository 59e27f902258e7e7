-- Both ranges are over one box, whichever places the second takes.
use Rattle.std.proofs.Common.{◌≡◌, ◌∙◌, refl, subst, List, ℤ, to_z, of_z, w64, SFits, to_z-of_z, arith}
use Rattle.std.proofs.lemmas.Int.{ints}
use Rattle.xt_meaning.specs.Lookup.{Box}
use Rattle.table_box.specs.declared.stretch.Stretch.{Stretch}
use Rattle.table_box.specs.Stretches.{IsStretch, box_of}
use Rattle.table_box.proofs.Places.{range_moved, same_box}
use Rattle.table_box.proofs.pair.TablePair.over_any_slews.Goals as goal

pub box_range-requires-clause-slews : goal.box_range-requires-clause-slews
box_range-requires-clause-slews c =
    subst (λ (xs : List ℤ). IsStretch xs c.of-slews.result) (c.slews.ensures.value ∙ c.self.invariant.slews_same c.if-self.true) c.of-slews.ensures.on_axis

pub box_range-requires-clause-loads : goal.box_range-requires-clause-loads
box_range-requires-clause-loads c =
    subst (λ (xs : List ℤ). IsStretch xs c.self.inside.loads) (c.self.invariant.loads_same c.if-self.true) c.self.invariant.on_axis

-- the box of the code, and that of the words of the call
box_is : (slews loads : Stretch) (s0 s1 : ℤ) → SFits w64 s0 → SFits w64 s1 → slews.from ≡ to_z w64 (of_z w64 s0) → slews.to ≡ to_z w64 (of_z w64 s1)
    → ◌≡◌ {A = Box} (box_of slews loads) (record { s0 = s0; s1 = s1; c0 = loads.from; c1 = loads.to })
box_is slews loads s0 s1 p q e f = same_box _ _ _ _ _ _ _ _ (e ∙ to_z-of_z p) (f ∙ to_z-of_z q) refl refl

pub returns-then-self-clause-first : goal.returns-then-self-clause-first
returns-then-self-clause-first c =
    let e = c.box_range-first.ensures in
    rw (← c.self.view_is)
    (range_moved c.self.inside.first.now _ _ c.box_range-first.result (box_is c.of-slews.result c.self.inside.loads _ _ c.ranges.s0 c.ranges.s1 c.of-slews.ensures.from c.of-slews.ensures.to) (record { least = e.least; greatest = e.greatest; least_number = e.least_number; greatest_number = e.greatest_number }))

pub returns-then-self-clause-second : goal.returns-then-self-clause-second
returns-then-self-clause-second c =
    let e = c.box_range.ensures in
    rw (← c.self.view_is)
    (range_moved c.self.inside.second.now _ _ c.box_range.result (box_is c.of-slews.result c.self.inside.loads _ _ c.ranges.s0 c.ranges.s1 c.of-slews.ensures.from c.of-slews.ensures.to) (record { least = e.least; greatest = e.greatest; least_number = e.least_number; greatest_number = e.greatest_number }))

pub returns-clause-first : goal.returns-clause-first
returns-clause-first c =
    let e = c.box_range-first.ensures in
    rw (← c.self.view_is)
    (range_moved c.self.inside.first.now _ _ c.box_range-first.result (box_is c.of-slews.result c.self.inside.loads _ _ c.ranges.s0 c.ranges.s1 c.of-slews.ensures.from c.of-slews.ensures.to) (record { least = e.least; greatest = e.greatest; least_number = e.least_number; greatest_number = e.greatest_number }))

pub range-requires-clause-loads : goal.range-requires-clause-loads
range-requires-clause-loads c = let h = c.self.invariant.on_axis.ordered in omega (arith, ints, h)

pub returns-clause-second : goal.returns-clause-second
returns-clause-second c =
    let e = c.range.ensures in let loads = c.self.inside.loads in
    let from : to_z w64 (of_z w64 loads.from) ≡ loads.from = omega (arith, ints) in
    let to : to_z w64 (of_z w64 loads.to) ≡ loads.to = omega (arith, ints) in
    rw (← c.self.view_is)
    (range_moved c.self.inside.second.now _ _ c.range.result (same_box _ _ _ _ _ _ _ _ (to_z-of_z c.ranges.s0) (to_z-of_z c.ranges.s1) from to)
    (record { least = e.least; greatest = e.greatest; least_number = e.least_number; greatest_number = e.greatest_number }))
