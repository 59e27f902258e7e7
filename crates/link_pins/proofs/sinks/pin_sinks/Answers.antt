use Rattle.std.proofs.Common.{◌≡◌, ℕ, ◌+◌, ◌<◌, ◌∙◌, List, [], length, take, set, get_or, Some, refl, sym, ap, subst, arith}
use Rattle.std.specs.Prelude.{is_some}
use Rattle.std.specs.List.{slice_get}
use Rattle.std.proofs.lemmas.List.{length_push, take_all}
use Rattle.std.proofs.lemmas.Option.{same_Some, slice_get-get_or, slice_get_read, slice_get_within}
use Rattle.link_rules.specs.Pins.{Connected, pins}
use Rattle.link_pins.specs.declared.sinks.NetSinks.{NetSinks}
use Rattle.link_pins.specs.Rows.{ArePinSinks}
use Rattle.link_pins.specs.Seen.{connected_at, HasShortNames}
use Rattle.link_pins.proofs.PinLaws.{nothing, parts_of, to_some}
use Rattle.link_pins.proofs.DriverLaws.{paired_at, fine_at, same_length}
use Rattle.link_pins.proofs.SinkLaws.{sink_added, place_is, places_more}
use Rattle.link_pins.proofs.sinks.pin_sinks.Goals as goal

pub loop-pin-init : goal.loop-pin-init
loop-pin-init c = record {
  sinks = record {
    count = c.in_ok-rows.ensures.count;
    each = λ net row at.
        let rows = c.in_ok-rows.rows.items in
        let lt = slice_get_within rows net row at in
        let here : get_or rows net row ≡ row = same_Some (get_or rows net row) row (sym (slice_get-get_or rows net row lt) ∙ at) in
        subst (λ (r : NetSinks). r.sinks.items ≡ []) here (c.in_ok-rows.ensures.none net row lt);
  };
  count = ap length c.in_ok-places.ensures.items;
  each = λ k d lt at. absurd (omega arith);
}

pub index_mut-requires : goal.index_mut-requires
index_mut-requires c =
    let p = get_or c.args.pins.now c.loop-pin.pin-index nothing in
    let cs = pins c.args.cells.now c.args.nets.now in
    let k = paired_at (connected_at c.args.cells.now c.args.nets.now) c.args.pins.now cs c.loop-pin.pin-index p c.requires.pins
    (slice_get-get_or c.args.pins.now c.loop-pin.pin-index nothing c.loop-pin-test.true) in
    let fine = fine_at c.args.cells.now c.args.nets.now c.requires.sound c.loop-pin.pin-index k.0 k.1 in
    omega (arith, fine.net, (parts_of c.args.cells.now c.args.nets.now p k.0 k.2).net, c.loop-pin.invariant.sinks.count, c.loop-pin.rows.ok.0)

pub add-requires-clause-there : goal.add-requires-clause-there
add-requires-clause-there c =
    let p = get_or c.args.pins.now c.loop-pin.pin-index nothing in
    let cs = pins c.args.cells.now c.args.nets.now in
    let k = paired_at (connected_at c.args.cells.now c.args.nets.now) c.args.pins.now cs c.loop-pin.pin-index p c.requires.pins
    (slice_get-get_or c.args.pins.now c.loop-pin.pin-index nothing c.loop-pin-test.true) in
    ap is_some k.2

pub add-requires-clause-short : goal.add-requires-clause-short
add-requires-clause-short c =
    let p = get_or c.args.pins.now c.loop-pin.pin-index nothing in
    let cs = pins c.args.cells.now c.args.nets.now in
    let k = paired_at (connected_at c.args.cells.now c.args.nets.now) c.args.pins.now cs c.loop-pin.pin-index p c.requires.pins
    (slice_get-get_or c.args.pins.now c.loop-pin.pin-index nothing c.loop-pin-test.true) in
    let fine = fine_at c.args.cells.now c.args.nets.now c.requires.sound c.loop-pin.pin-index k.0 k.1 in
    to_some _ HasShortNames k.0 k.2 (fine.owner, fine.name)

pub loop-pin-preserved : goal.loop-pin-preserved
loop-pin-preserved c =
    let p = get_or c.args.pins.now c.loop-pin.pin-index nothing in
    let cs = pins c.args.cells.now c.args.nets.now in
    let k = paired_at (connected_at c.args.cells.now c.args.nets.now) c.args.pins.now cs c.loop-pin.pin-index p c.requires.pins
    (slice_get-get_or c.args.pins.now c.loop-pin.pin-index nothing c.loop-pin-test.true) in
    let fine = fine_at c.args.cells.now c.args.nets.now c.requires.sound c.loop-pin.pin-index k.0 k.1 in
    let net : k.0.net ≡ p.net = (parts_of c.args.cells.now c.args.nets.now p k.0 k.2).net in
    let lt : p.net < length c.loop-pin.rows.items = omega (arith, fine.net, net, c.loop-pin.invariant.sinks.count) in
    let there : slice_get c.loop-pin.rows.items p.net ≡ Some c.index_mut.result.now = slice_get_read c.loop-pin.rows.items _ p.net c.index_mut.result.now refl lt c.index_mut.ensures.value in
    let at_net : slice_get c.loop-pin.rows.items k.0.net ≡ Some c.index_mut.result.now = ap (slice_get c.loop-pin.rows.items) net ∙ there in
    let place : c.in_ok-place.place ≡ length c.index_mut.result.now.sinks.items = c.in_ok-place.ensures.place in
    record {
      sinks =
          subst (λ (n : ℕ). ArePinSinks c.args.nets.now.nets (take (c.loop-pin.pin-index + 1) cs) (set c.loop-pin.rows.items n c.add.new.self)) net
          (sink_added cs c.loop-pin.pin-index k.0 k.1 c.args.nets.now.nets c.loop-pin.rows.items c.index_mut.result.now c.add.new.self c.loop-pin.invariant.sinks at_net (c.in_ok-place.ensures.sinks k.0 k.2));
      count = omega (arith, ap length c.in_ok-push.ensures.items, length_push c.loop-pin.places.items c.in_ok-place.place, c.loop-pin.invariant.count);
      each =
          places_more cs c.loop-pin.pin-index k.0 c.loop-pin.places.items c.push.new.self.items c.in_ok-place.place k.1 c.loop-pin.invariant.count c.in_ok-push.ensures.items
          (place_is (take c.loop-pin.pin-index cs) k.0.net c.index_mut.result.now.sinks.items c.in_ok-place.place (c.loop-pin.invariant.sinks.each k.0.net c.index_mut.result.now at_net) place)
          c.loop-pin.invariant.each;
    }

pub returns-clause-places : goal.returns-clause-places
returns-clause-places c =
    let cs = pins c.args.cells.now c.args.nets.now in
    let len : length c.args.pins.now ≡ length cs = same_length (connected_at c.args.cells.now c.args.nets.now) (λ (x : Connected). Some x) c.args.pins.now cs c.requires.pins in
    record {
      count = omega (arith, len, c.loop-pin.invariant.count, c.loop-pin-test.false, c.loop-pin.auto.pin-index-end);
      each = λ k d at. c.loop-pin.invariant.each k d (omega (arith, len, slice_get_within cs k d at, c.loop-pin-test.false)) at;
    }

pub no_sinks-requires-clause-sound : goal.no_sinks-requires-clause-sound
no_sinks-requires-clause-sound c = c.requires.sound

pub no_sinks-requires-clause-pins : goal.no_sinks-requires-clause-pins
no_sinks-requires-clause-pins c = c.requires.pins

pub returns-clause-sinks : goal.returns-clause-sinks
returns-clause-sinks c =
    let cs = pins c.args.cells.now c.args.nets.now in
    let len : length c.args.pins.now ≡ length cs = same_length (connected_at c.args.cells.now c.args.nets.now) (λ (x : Connected). Some x) c.args.pins.now cs c.requires.pins in
    subst (λ (l : List Connected). ArePinSinks c.args.nets.now.nets l c.loop-pin.rows.items) (take_all c.loop-pin.pin-index cs (omega (arith, len, c.loop-pin-test.false))) c.loop-pin.invariant.sinks
