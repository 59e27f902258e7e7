use Rattle.std.proofs.Common.{◌≡◌, ◌<◌, length, get_or, ap, arith}
use Rattle.std.specs.Prelude.{is_some}
use Rattle.std.proofs.lemmas.Option.{slice_get-get_or}
use Rattle.link_rules.specs.Pins.{pins}
use Rattle.link_pins.specs.Seen.{connected_at}
use Rattle.link_pins.proofs.PinLaws.{nothing, parts_of}
use Rattle.link_pins.proofs.DriverLaws.{paired_at, fine_at}
use Rattle.link_pins.proofs.sinks.input_counts.Goals as goal

pub is_input-requires : goal.is_input-requires
is_input-requires c =
    let p = get_or c.args.pins.now c.loop-pin.pin-index nothing in
    let k = paired_at (connected_at c.args.cells.now c.args.nets.now) c.args.pins.now (pins c.args.cells.now c.args.nets.now) c.loop-pin.pin-index p c.requires.pins
    (slice_get-get_or c.args.pins.now c.loop-pin.pin-index nothing c.loop-pin-test.true) in
    ap is_some (parts_of c.args.cells.now c.args.nets.now p k.0 k.2).pin

pub index-requires : goal.index-requires
index-requires c =
    let p = get_or c.args.pins.now c.loop-pin.pin-index nothing in
    let k = paired_at (connected_at c.args.cells.now c.args.nets.now) c.args.pins.now (pins c.args.cells.now c.args.nets.now) c.loop-pin.pin-index p c.requires.pins
    (slice_get-get_or c.args.pins.now c.loop-pin.pin-index nothing c.loop-pin-test.true) in
    let fine = fine_at c.args.cells.now c.args.nets.now c.requires.sound c.loop-pin.pin-index k.0 k.1 in
    omega (arith, fine.net, (parts_of c.args.cells.now c.args.nets.now p k.0 k.2).net, c.loop-pin.invariant)

pub index_mut-requires : goal.index_mut-requires
index_mut-requires c =
    let p = get_or c.args.pins.now c.loop-pin.pin-index nothing in
    let k = paired_at (connected_at c.args.cells.now c.args.nets.now) c.args.pins.now (pins c.args.cells.now c.args.nets.now) c.loop-pin.pin-index p c.requires.pins
    (slice_get-get_or c.args.pins.now c.loop-pin.pin-index nothing c.loop-pin-test.true) in
    let fine = fine_at c.args.cells.now c.args.nets.now c.requires.sound c.loop-pin.pin-index k.0 k.1 in
    omega (arith, fine.net, (parts_of c.args.cells.now c.args.nets.now p k.0 k.2).net, c.loop-pin.invariant)
