-- The loads lie on the axis of the first table.
use Rattle.std.proofs.Common.{refl, subst, List, ℤ, to_z-of_z}
use Rattle.table_box.specs.Stretches.{IsStretch}
use Rattle.table_box.proofs.pair.TablePair.known.Goals as goal

pub invariant_of-result : goal.invariant_of-result
invariant_of-result c = record {
  first = c.loads.ensures.sound;
  second = c.are_alike.ensures.table;
  on_axis = subst (λ (xs : List ℤ). IsStretch xs c.of.result) c.loads.ensures.value c.of.ensures.on_axis;
  slews_same = c.are_alike.ensures.slews;
  loads_same = c.are_alike.ensures.loads;
  monotone = c.requires.monotone;
}

pub returns : goal.returns
returns c = rw (c.of.ensures.from, c.of.ensures.to, to_z-of_z c.ranges.c0, to_z-of_z c.ranges.c1) refl
