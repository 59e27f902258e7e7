use Rattle.std.proofs.Common.{◌≡◌, ℕ, ◌+◌, ◌<◌, ◌∙◌, List, length, take, set, get_or, Some, refl, sym, ap, subst, arith}
use Rattle.std.specs.Prelude.{is_some}
use Rattle.std.specs.List.{slice_get}
use Rattle.std.proofs.lemmas.List.{take_all}
use Rattle.std.proofs.lemmas.Option.{slice_get-get_or, slice_get_read}
use Rattle.link_rules.specs.Pins.{Connected, is_output, pins}
use Rattle.link_pins.specs.Rows.{AreDrivers}
use Rattle.link_pins.specs.Seen.{connected_at, HasShortNames}
use Rattle.link_pins.proofs.PinLaws.{nothing, parts_of, to_some, some_at}
use Rattle.link_pins.proofs.DriverLaws.{paired_at, fine_at, driver_added, driver_not_added, same_length}
use Rattle.link_pins.proofs.drivers.all_drivers.Goals as goal
use Rattle.link_pins.proofs.drivers.all_drivers.Goals.{then-is_output+in_ok-add, else-is_output}

pub is_output-requires : goal.is_output-requires
is_output-requires c =
    let p = get_or c.args.pins.now c.loop-pin.pin-index nothing in
    let k = paired_at (connected_at c.args.cells.now c.args.nets.now) c.args.pins.now (pins c.args.cells.now c.args.nets.now) c.loop-pin.pin-index p c.requires.pins
    (slice_get-get_or c.args.pins.now c.loop-pin.pin-index nothing c.loop-pin-test.true) in
    ap is_some (parts_of c.args.cells.now c.args.nets.now p k.0 k.2).pin

pub index_mut-requires : goal.index_mut-requires
index_mut-requires c =
    let p = get_or c.args.pins.now c.loop-pin.pin-index nothing in
    let k = paired_at (connected_at c.args.cells.now c.args.nets.now) c.args.pins.now (pins c.args.cells.now c.args.nets.now) c.loop-pin.pin-index p c.requires.pins
    (slice_get-get_or c.args.pins.now c.loop-pin.pin-index nothing c.loop-pin-test.true) in
    let fine = fine_at c.args.cells.now c.args.nets.now c.requires.sound c.loop-pin.pin-index k.0 k.1 in
    omega (arith, fine.net, (parts_of c.args.cells.now c.args.nets.now p k.0 k.2).net, c.loop-pin.invariant.count, c.loop-pin.drivers.ok.0)

pub add-requires-clause-there : goal.add-requires-clause-there
add-requires-clause-there c =
    let p = get_or c.args.pins.now c.loop-pin.pin-index nothing in
    let k = paired_at (connected_at c.args.cells.now c.args.nets.now) c.args.pins.now (pins c.args.cells.now c.args.nets.now) c.loop-pin.pin-index p c.requires.pins
    (slice_get-get_or c.args.pins.now c.loop-pin.pin-index nothing c.loop-pin-test.true) in
    ap is_some k.2

pub add-requires-clause-short : goal.add-requires-clause-short
add-requires-clause-short c =
    let p = get_or c.args.pins.now c.loop-pin.pin-index nothing in
    let k = paired_at (connected_at c.args.cells.now c.args.nets.now) c.args.pins.now (pins c.args.cells.now c.args.nets.now) c.loop-pin.pin-index p c.requires.pins
    (slice_get-get_or c.args.pins.now c.loop-pin.pin-index nothing c.loop-pin-test.true) in
    let fine = fine_at c.args.cells.now c.args.nets.now c.requires.sound c.loop-pin.pin-index k.0 k.1 in
    to_some _ HasShortNames k.0 k.2 (fine.owner, fine.name)

pub loop-pin-preserved : goal.loop-pin-preserved
loop-pin-preserved c =
    let p = get_or c.args.pins.now c.loop-pin.pin-index nothing in
    let cs = pins c.args.cells.now c.args.nets.now in
    let k = paired_at (connected_at c.args.cells.now c.args.nets.now) c.args.pins.now cs c.loop-pin.pin-index p c.requires.pins
    (slice_get-get_or c.args.pins.now c.loop-pin.pin-index nothing c.loop-pin-test.true) in
    let parts = parts_of c.args.cells.now c.args.nets.now p k.0 k.2 in
    let role : c.is_output.result ≡ is_output k.0.pin.role = some_at _ _ k.0.pin parts.pin c.is_output.ensures in
    elim c.if-is_output.branch [
      | then-is_output+in_ok-add w ↦
          let fine = fine_at c.args.cells.now c.args.nets.now c.requires.sound c.loop-pin.pin-index k.0 k.1 in
          let net : k.0.net ≡ p.net = parts.net in
          let lt : p.net < length c.loop-pin.drivers.items = omega (arith, fine.net, net, c.loop-pin.invariant.count) in
          let there : slice_get c.loop-pin.drivers.items p.net ≡ Some w.index_mut.result.now =
          slice_get_read c.loop-pin.drivers.items _ p.net w.index_mut.result.now refl lt w.index_mut.ensures.value in
          let at_net : slice_get c.loop-pin.drivers.items k.0.net ≡ Some w.index_mut.result.now = ap (slice_get c.loop-pin.drivers.items) net ∙ there in
          let added = driver_added c.args.nets.now.nets cs c.loop-pin.pin-index k.0 k.1 c.loop-pin.drivers.items c.loop-pin.invariant w.index_mut.result.now w.add.new.self
          at_net (sym role ∙ w.if-is_output.true) (λ ends h. w.in_ok-add.ensures ends k.0 k.2 h) in
          rw w.drivers-is (subst (λ (n : ℕ). AreDrivers c.args.nets.now.nets (take (c.loop-pin.pin-index + 1) cs) (set c.loop-pin.drivers.items n w.add.new.self)) net added)
      | else-is_output w ↦
          rw w.drivers-is (driver_not_added c.args.nets.now.nets cs c.loop-pin.pin-index k.0 k.1 c.loop-pin.drivers.items c.loop-pin.invariant (sym role ∙ w.if-is_output.false))
    ]

pub returns : goal.returns
returns c =
    let cs = pins c.args.cells.now c.args.nets.now in
    let len : length c.args.pins.now ≡ length cs = same_length (connected_at c.args.cells.now c.args.nets.now) (λ (x : Connected). Some x) c.args.pins.now cs c.requires.pins in
    subst (λ (l : List Connected). AreDrivers c.args.nets.now.nets l c.loop-pin.drivers.items) (take_all c.loop-pin.pin-index cs (omega (arith, len, c.loop-pin-test.false))) c.loop-pin.invariant
