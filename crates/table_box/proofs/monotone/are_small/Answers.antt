-- The product of the greatest size and the greatest widths has room.
use Rattle.std.proofs.Common.{sym, subst, List, ℤ, arith}
use Rattle.std.specs.List.{All}
use Rattle.std.proofs.lemmas.Int.{ints}
use Rattle.xt_model.specs.Tables.{IsIndex, IsTableNumber}
use Rattle.table_box.specs.Cells.{IsAtMost}
use Rattle.table_box.specs.Monotone.{AreAtMostApart}
use Rattle.table_box.proofs.Sizes.{room_is, small_room}
use Rattle.table_box.proofs.monotone.are_small.Goals as goal

pub returns : goal.returns
returns c = λ t.
    let size = c.greatest_size-size in let slews = c.greatest_width-slew_width in let loads = c.greatest_width-load_width in
    let p = c.scaled.ensures in let q = c.weighed.ensures in
    record {
      most = size.result;
      least = size.ensures.least;
      numbers = subst (λ (xs : List ℤ). All (IsAtMost size.result) xs) c.values.ensures.value size.ensures.most;
      room = small_room c.args.table.now size.result slews.result loads.result c.values.ensures.sound size.ensures.least
          (subst (λ (xs : List ℤ). AreAtMostApart xs slews.result) c.slews.ensures.value slews.ensures.apart) slews.ensures.least
          (subst (λ (xs : List ℤ). AreAtMostApart xs loads.result) c.loads.ensures.value loads.ensures.apart) loads.ensures.least
          (room_is size.result slews.result loads.result c.scaled.result c.weighed.result size.ensures.number slews.ensures.least slews.ensures.most loads.ensures.least loads.ensures.most
          (omega (arith, ints, p.low, p.high)) (omega (arith, ints, q.low, q.high)) p.value q.value (c.has_room.ensures t));
    }

pub greatest_size-size-requires : goal.greatest_size-size-requires
greatest_size-size-requires c = subst (λ (xs : List ℤ). All IsTableNumber xs) (sym c.values.ensures.value) c.values.ensures.sound.values

pub greatest_width-slew_width-requires : goal.greatest_width-slew_width-requires
greatest_width-slew_width-requires c = subst IsIndex (sym c.slews.ensures.value) c.slews.ensures.sound.slews

pub greatest_width-load_width-requires : goal.greatest_width-load_width-requires
greatest_width-load_width-requires c = subst IsIndex (sym c.loads.ensures.value) c.loads.ensures.sound.loads

pub scaled-requires-clause-value : goal.scaled-requires-clause-value
scaled-requires-clause-value c = let n = c.greatest_size-size.ensures.number in record { low = omega (arith, ints, n.low, n.high); high = omega (arith, ints, n.low, n.high) }

pub scaled-requires-clause-low : goal.scaled-requires-clause-low
scaled-requires-clause-low c = let w = c.greatest_width-slew_width.ensures in omega (arith, ints, w.least, w.most)

pub scaled-requires-clause-high : goal.scaled-requires-clause-high
scaled-requires-clause-high c = let w = c.greatest_width-slew_width.ensures in omega (arith, ints, w.least, w.most)

pub weighed-requires-clause-number_low : goal.weighed-requires-clause-number_low
weighed-requires-clause-number_low c = omega (arith, ints, c.scaled.ensures.low, c.scaled.ensures.high)

pub weighed-requires-clause-number_high : goal.weighed-requires-clause-number_high
weighed-requires-clause-number_high c = omega (arith, ints, c.scaled.ensures.low, c.scaled.ensures.high)

pub weighed-requires-clause-low : goal.weighed-requires-clause-low
weighed-requires-clause-low c = let w = c.greatest_width-load_width.ensures in omega (arith, ints, w.least, w.most)

pub weighed-requires-clause-high : goal.weighed-requires-clause-high
weighed-requires-clause-high c = let w = c.greatest_width-load_width.ensures in omega (arith, ints, w.least, w.most)
