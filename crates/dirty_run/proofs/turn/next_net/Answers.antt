use Rattle.std.proofs.Common.{refl}
use Rattle.std.specs.Prelude.{slice_index}
use Rattle.dirty_run.proofs.Turned.{place_found, no_place}
use Rattle.dirty_run.proofs.turn.next_net.Goals as goal

pub returns-then-number-order-clause-drew : goal.returns-then-number-order-clause-drew
returns-then-number-order-clause-drew g c = record {
  number = c.draw-number.result;
  drew = c.draw-number.ensures.drew;
  place = place_found c.args.run.now.design.now c.order-order.result.now c.draw-number.result (record { 0 = slice_index c.order-order.result.now c.draw-number.result }) c.order-order.ensures.value c.if-number-order.true refl;
}

pub returns-clause-drew : goal.returns-clause-drew
returns-clause-drew g c = record {
  number = c.draw-number.result;
  drew = c.draw-number.ensures.drew;
  place = no_place c.args.run.now.design.now c.order-order.result.now c.draw-number.result c.order-order.ensures.value c.if-number-order.false;
}
