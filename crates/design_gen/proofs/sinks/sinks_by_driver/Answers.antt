use Rattle.std.proofs.Common.{◌≡◌, ◌∙◌, ◌<◌, refl, ap, subst, length, map, get_or, arith}
use Rattle.std.specs.Prelude.{slice_index}
use Rattle.std.proofs.lemmas.List.{length-map, length-set}
use Rattle.design_gen.specs.Lists.{each_below}
use Rattle.design_gen.specs.Rows.{HoldPins}
use Rattle.design_gen.specs.Taps.{place_of}
use Rattle.design_gen.proofs.NetLaws.{pins_on_few}
use Rattle.design_gen.proofs.RowLaws.{none_there, pin_appended, place_is, places_turn}
use Rattle.design_gen.proofs.sinks.sinks_by_driver.Goals as goal

pub loop-pin-init : goal.loop-pin-init
loop-pin-init c = record {
  rows = record { each = none_there (λ r. r.items) c.in_ok-rows.rows.items c.in_ok-rows.ensures.empty };
  count = c.in_ok-rows.ensures.count;
  places = c.in_ok-places.ensures.items;
}

pub overflow_cast-len : goal.overflow_cast-len
overflow_cast-len c =
    let a = c.requires.drivers c.loop-pin.pin 0 c.loop-pin-test.true in
    let p : get_or c.args.drivers.now c.loop-pin.pin 0 < length c.loop-pin.rows.items = omega (arith, a, c.loop-pin.invariant.count) in
    let e = place_is (λ r. r.items) c.loop-pin.rows.items (slice_index c.args.drivers.now) c.loop-pin.pin (get_or c.args.drivers.now c.loop-pin.pin 0) c.len.result
    c.index.result.now refl p c.loop-pin.invariant.rows c.index.ensures c.len.ensures.value in
    let few = pins_on_few (slice_index c.args.drivers.now) (slice_index c.args.drivers.now c.loop-pin.pin) c.loop-pin.pin in
    omega (arith, e, few, c.loop-pin-test.true, c.requires.few)

pub loop-pin-preserved : goal.loop-pin-preserved
loop-pin-preserved c =
    let a = c.requires.drivers c.loop-pin.pin 0 c.loop-pin-test.true in
    let p : get_or c.args.drivers.now c.loop-pin.pin 0 < length c.loop-pin.rows.items = omega (arith, a, c.loop-pin.invariant.count) in
    let e = place_is (λ r. r.items) c.loop-pin.rows.items (slice_index c.args.drivers.now) c.loop-pin.pin (get_or c.args.drivers.now c.loop-pin.pin 0) c.len.result
    c.index.result.now refl p c.loop-pin.invariant.rows c.index.ensures c.len.ensures.value in
    let old = length-map c.loop-pin.rows.items (λ r. r.items) in
    let new = length-map c.push_item.new.rows.items (λ r. r.items) in
    let same = ap (λ xs. length xs) c.in_ok-push_item.ensures ∙ length-set (map (λ r. r.items) c.loop-pin.rows.items) (get_or c.args.drivers.now c.loop-pin.pin 0) _ in
    record {
      rows = pin_appended (map (λ r. r.items) c.loop-pin.rows.items) (map (λ r. r.items) c.push_item.new.rows.items) (slice_index c.args.drivers.now) c.loop-pin.pin
          (get_or c.args.drivers.now c.loop-pin.pin 0) refl (omega (arith, p, old)) c.loop-pin.invariant.rows c.in_ok-push_item.ensures;
      count = omega (arith, old, new, same, c.loop-pin.invariant.count);
      places = places_turn (place_of (slice_index c.args.drivers.now)) c.loop-pin.pin c.len.result c.loop-pin.places.items c.push.new.self.items
          c.loop-pin.invariant.places e c.in_ok-push.ensures.items;
    }

pub bounds-drivers-pin : goal.bounds-drivers-pin
bounds-drivers-pin c = c.loop-pin-test.true

pub index-requires : goal.index-requires
index-requires c =
    let a = c.requires.drivers c.loop-pin.pin 0 c.loop-pin-test.true in
    omega (arith, a, c.loop-pin.invariant.count, c.loop-pin.rows.ok.0)

pub push_item-requires : goal.push_item-requires
push_item-requires c =
    let a = c.requires.drivers c.loop-pin.pin 0 c.loop-pin-test.true in
    (omega arith, omega (arith, a, c.loop-pin.invariant.count))

pub returns-clause-rows : goal.returns-clause-rows
returns-clause-rows c =
    let end : c.loop-pin.pin ≡ length c.args.drivers.now = omega (arith, c.loop-pin-test.false, c.loop-pin.auto.pin-end) in
    subst (HoldPins (map (λ r. r.items) c.loop-pin.rows.items) (slice_index c.args.drivers.now)) end c.loop-pin.invariant.rows

pub returns-clause-count : goal.returns-clause-count
returns-clause-count c = c.loop-pin.invariant.count

pub returns-clause-places : goal.returns-clause-places
returns-clause-places c =
    let end : c.loop-pin.pin ≡ length c.args.drivers.now = omega (arith, c.loop-pin-test.false, c.loop-pin.auto.pin-end) in
    c.loop-pin.invariant.places ∙ ap (each_below (place_of (slice_index c.args.drivers.now))) end
