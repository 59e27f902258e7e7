use Rattle.std.proofs.Common.{◌≡◌, ℕ, ◌<◌, ◌≤◌, ◌∙◌, List, [], length, take, get_or, Some, sym, ap, subst, arith}
use Rattle.std.specs.Prelude.{Option, is_some}
use Rattle.std.specs.Global.{Vec}
use Rattle.std.specs.List.{All, slice_get}
use Rattle.std.proofs.lemmas.List.{take_all}
use Rattle.std.proofs.lemmas.Option.{none-some, slice_get-get_or, slice_get_within, get_or_from_slice_get}
use Rattle.liberty_cells.specs.declared.cell.Cell.{Cell}
use Rattle.link_rules.specs.Pins.{Connected, pins}
use Rattle.link_pins.specs.Rows.{AreTimed}
use Rattle.link_pins.specs.Seen.{connected_at, HasShortNames}
use Rattle.link_pins.proofs.DriverLaws.{paired_at, same_length, fine_at}
use Rattle.link_pins.specs.declared.known.KnownAt.{KnownAt}
use Rattle.link_pins.specs.declared.related.RelatedPin.{RelatedPin}
use Rattle.link_pins.specs.declared.timings.NetArcs.{NetArcs}
use Rattle.link_pins.specs.Known.{AreBefore, AreSinksOf}
use Rattle.link_pins.proofs.KnownLaws.{starts, ends}
use Rattle.link_pins.proofs.OrderLaws.{next_boundary}
use Rattle.link_pins.proofs.PinLaws.{nothing, element_at, parts_of, take_next, to_some}
use Rattle.link_pins.proofs.PlaceLaws.{pin_inside, those_entered}
use Rattle.link_pins.proofs.StretchLaws.{entered_for}
use Rattle.link_pins.proofs.timings.timings_of.Goals as goal

pub enter-requires-clause-there : goal.enter-requires-clause-there
enter-requires-clause-there c = λ k d lt.
    let p = get_or c.args.pins.now k d in
    let y = paired_at (connected_at c.args.cells.now c.args.nets.now) c.args.pins.now (pins c.args.cells.now c.args.nets.now) k p c.requires.pins (slice_get-get_or c.args.pins.now k d lt) in
    ap is_some (parts_of c.args.cells.now c.args.nets.now p y.0 y.2).pin

pub add-requires-clause-there : goal.add-requires-clause-there
add-requires-clause-there c =
    let p = get_or c.args.pins.now c.loop-k.k nothing in
    let within : c.loop-k.k < length c.args.pins.now = omega (arith, c.loop-k-test.true, c.same_instance-to.ensures.most) in
    let y = paired_at (connected_at c.args.cells.now c.args.nets.now) c.args.pins.now (pins c.args.cells.now c.args.nets.now) c.loop-k.k p c.requires.pins
    (slice_get-get_or c.args.pins.now c.loop-k.k nothing within) in
    ap is_some y.2

pub add-requires-clause-short : goal.add-requires-clause-short
add-requires-clause-short c =
    let p = get_or c.args.pins.now c.loop-k.k nothing in
    let within : c.loop-k.k < length c.args.pins.now = omega (arith, c.loop-k-test.true, c.same_instance-to.ensures.most) in
    let y = paired_at (connected_at c.args.cells.now c.args.nets.now) c.args.pins.now (pins c.args.cells.now c.args.nets.now) c.loop-k.k p c.requires.pins
    (slice_get-get_or c.args.pins.now c.loop-k.k nothing within) in
    let fine = fine_at c.args.cells.now c.args.nets.now c.requires.sound c.loop-k.k y.0 y.1 in
    to_some _ HasShortNames y.0 y.2 (fine.owner, fine.name)

pub add-requires-clause-net : goal.add-requires-clause-net
add-requires-clause-net c =
    let p = get_or c.args.pins.now c.loop-k.k nothing in
    let within : c.loop-k.k < length c.args.pins.now = omega (arith, c.loop-k-test.true, c.same_instance-to.ensures.most) in
    let y = paired_at (connected_at c.args.cells.now c.args.nets.now) c.args.pins.now (pins c.args.cells.now c.args.nets.now) c.loop-k.k p c.requires.pins
    (slice_get-get_or c.args.pins.now c.loop-k.k nothing within) in
    let fine = fine_at c.args.cells.now c.args.nets.now c.requires.sound c.loop-k.k y.0 y.1 in
    omega (arith, fine.net, (parts_of c.args.cells.now c.args.nets.now p y.0 y.2).net, c.loop-k.invariant.timed.arcs.count)

pub loop-k-preserved : goal.loop-k-preserved
loop-k-preserved c =
    let p = get_or c.args.pins.now c.loop-k.k nothing in
    let cs = pins c.args.cells.now c.args.nets.now in
    let within : c.loop-k.k < length c.args.pins.now = omega (arith, c.loop-k-test.true, c.same_instance-to.ensures.most) in
    let at : slice_get c.args.pins.now c.loop-k.k ≡ Some p = slice_get-get_or c.args.pins.now c.loop-k.k nothing within in
    let y = paired_at (connected_at c.args.cells.now c.args.nets.now) c.args.pins.now cs c.loop-k.k p c.requires.pins at in
    let entered = entered_for c.args.cells.now c.args.nets.now c.args.pins.now c.requires.pins c.requires.placed c.args.sinks.now c.requires.places c.instances.from c.same_instance-to.result
    c.same_instance-to.ensures c.instances.invariant.boundary c.enter.new.self.at.items c.in_ok-enter.ensures.entries c.loop-k.k p c.loop-k.auto.k c.loop-k-test.true at in
    record {
      timed =
          subst (λ (l : List Connected). AreTimed c.args.cells.now c.args.nets.now l c.add.new.self.nets.items c.add.new.self.checks.items) (sym (take_next c.loop-k.k cs y.0 y.1))
          (c.in_ok-add.ensures.timed (take c.loop-k.k cs) y.0 y.2 entered c.loop-k.invariant.timed);
      known = c.in_ok-add.ensures.known;
    }

pub clear-requires-clause-room : goal.clear-requires-clause-room
clear-requires-clause-room c = λ k d lt.
    let p = get_or c.args.pins.now k d in
    let y = paired_at (connected_at c.args.cells.now c.args.nets.now) c.args.pins.now (pins c.args.cells.now c.args.nets.now) k p c.requires.pins (slice_get-get_or c.args.pins.now k d lt) in
    let there = ap is_some (parts_of c.args.cells.now c.args.nets.now p y.0 y.2).pin in
    omega (arith, pin_inside c.args.cells.now c.instances.places.at.items p there c.instances.invariant.room, c.in_ok-enter.ensures.count)

pub instances-preserved : goal.instances-preserved
instances-preserved c =
    let first = element_at c.args.pins.now c.instances.from c.instances-test.true in
    let last : c.loop-k.k ≡ c.same_instance-to.result =
    omega (arith, c.loop-k-test.false, c.loop-k.auto.k-end (omega (arith, c.same_instance-to.ensures.some))) in
    record {
      within = c.same_instance-to.ensures.most;
      boundary =
          next_boundary c.args.cells.now c.args.nets.now c.args.pins.now c.requires.pins c.instances.from c.same_instance-to.result first.0 first.1 c.same_instance-to.ensures c.instances.invariant.boundary;
      room = subst (λ (n : ℕ). All (λ (x : Cell). length x.pins ≤ n) c.args.cells.now.cells) (sym (c.clear.ensures.count ∙ c.in_ok-enter.ensures.count)) c.instances.invariant.room;
      clear = c.clear.ensures.clear;
      listed = c.clear.ensures.listed;
      timed =
          subst (λ (n : ℕ). AreTimed c.args.cells.now c.args.nets.now (take n (pins c.args.cells.now c.args.nets.now)) c.loop-k.timings.nets.items c.loop-k.timings.checks.items) last
          c.loop-k.invariant.timed;
      known =
          ends (AreSinksOf c.enter.new.self.at.items) c.in_ok-related.related.cells.items c.enter.new.self.from c.same_instance-to.result c.loop-k.known.of.items
          (omega (arith, c.in_ok-enter.ensures.from, c.same_instance-to.ensures.some)) c.loop-k.invariant.known;
    }

pub add-requires-clause-listed : goal.add-requires-clause-listed
add-requires-clause-listed c = c.in_ok-enter.ensures.listed c.instances.invariant.listed

pub clear-requires-clause-those : goal.clear-requires-clause-those
clear-requires-clause-those c =
    those_entered c.args.cells.now c.args.pins.now c.args.sinks.now c.instances.from c.same_instance-to.result c.enter.new.self.at.items c.in_ok-enter.ensures.entries

pub returns : goal.returns
returns c =
    let cs = pins c.args.cells.now c.args.nets.now in
    let long : length c.args.pins.now ≡ length cs = same_length (connected_at c.args.cells.now c.args.nets.now) (λ (x : Connected). Some x) c.args.pins.now cs c.requires.pins in
    subst (λ (l : List Connected). AreTimed c.args.cells.now c.args.nets.now l c.instances.timings.nets.items c.instances.timings.checks.items)
    (take_all c.instances.from cs (omega (arith, long, c.instances-test.false))) c.instances.invariant.timed

pub loop-k-init : goal.loop-k-init
loop-k-init c = record {
  timed = c.instances.invariant.timed;
  known =
      starts (AreSinksOf c.enter.new.self.at.items) c.in_ok-related.related.cells.items c.enter.new.self.from c.instances.known.of.items
      (λ n d f x h. omega (arith, c.instances.invariant.known n d f x h, c.in_ok-enter.ensures.from));
}

pub instances-init : goal.instances-init
instances-init c = record {
  within = omega arith;
  boundary = λ i j x y lt le a b. absurd (omega (arith, lt));
  room = subst (λ (n : ℕ). All (λ (x : Cell). length x.pins ≤ n) c.args.cells.now.cells) (sym c.in_ok-places.ensures.count) c.most_pins.ensures.most;
  clear = c.in_ok-places.ensures.clear;
  listed = c.in_ok-places.ensures.listed;
  known = subst (λ (of : List (Option (KnownAt (Vec RelatedPin)))). AreBefore 0 of) (sym c.new-known.ensures) (λ n d f x h. absurd (none-some x h));
  timed = record {
    arcs = record {
      count = c.in_ok-timings.ensures.count;
      each = λ net row at.
          let rows = c.in_ok-timings.timings.nets.items in
          subst (λ (r : NetArcs). r.arcs.items ≡ []) (get_or_from_slice_get rows net row row at) (c.in_ok-timings.ensures.arcs net row (slice_get_within rows net row at));
    };
    checks = c.in_ok-timings.ensures.checks;
  };
}

pub enter-requires-clause-places : goal.enter-requires-clause-places
enter-requires-clause-places c =
    let cs = pins c.args.cells.now c.args.nets.now in
    c.requires.places.count ∙ sym (same_length (connected_at c.args.cells.now c.args.nets.now) (λ (x : Connected). Some x) c.args.pins.now cs c.requires.pins)

pub enter-requires-clause-room : goal.enter-requires-clause-room
enter-requires-clause-room c = c.instances.invariant.room

pub enter-requires-clause-clear : goal.enter-requires-clause-clear
enter-requires-clause-clear c = c.instances.invariant.clear

pub add-requires-clause-related : goal.add-requires-clause-related
add-requires-clause-related c = c.in_ok-related.ensures

pub add-requires-clause-room : goal.add-requires-clause-room
add-requires-clause-room c =
    subst (λ (n : ℕ). All (λ (x : Cell). length x.pins ≤ n) c.args.cells.now.cells) (sym c.in_ok-enter.ensures.count) c.instances.invariant.room

pub add-requires-clause-known : goal.add-requires-clause-known
add-requires-clause-known c = c.loop-k.invariant.known

pub same_instance-to-requires : goal.same_instance-to-requires
same_instance-to-requires c = c.instances-test.true

pub enter-requires-clause-order : goal.enter-requires-clause-order
enter-requires-clause-order c = omega (arith, c.same_instance-to.ensures.some)

pub enter-requires-clause-within : goal.enter-requires-clause-within
enter-requires-clause-within c = c.same_instance-to.ensures.most

pub bounds-pins-k : goal.bounds-pins-k
bounds-pins-k c = omega (arith, c.loop-k-test.true, c.same_instance-to.ensures.most)

pub clear-requires-clause-order : goal.clear-requires-clause-order
clear-requires-clause-order c = omega (arith, c.same_instance-to.ensures.some)

pub clear-requires-clause-within : goal.clear-requires-clause-within
clear-requires-clause-within c = c.same_instance-to.ensures.most

pub instances-smaller : goal.instances-smaller
instances-smaller c = omega (arith, c.same_instance-to.ensures.some, c.same_instance-to.ensures.most)
