use Rattle.std.proofs.Common.{◌≡◌, ℕ, ◌+◌, ◌<◌, ◌∙◌, List, length, get_or, refl, sym, ap, subst, arith}
use Rattle.std.specs.Prelude.{Option}
use Rattle.std.specs.List.{slice_index}
use Rattle.std.proofs.lemmas.Option.{slice_get-get_or}
use Rattle.link_pins.specs.declared.arcs.SinkAt.{SinkAt}
use Rattle.link_pins.specs.Places.{AreEntries}
use Rattle.link_pins.proofs.PlaceLaws.{no_entries, entry_more, pin_inside, same_room}
use Rattle.link_pins.proofs.PinLaws.{nothing}
use Rattle.link_pins.proofs.arcs.Places.enter.Goals as goal

pub loop-k-init : goal.loop-k-init
loop-k-init c = record {
  count = refl;
  entries = no_entries c.args.cells.now c.args.pins.now c.args.places.now c.args.from c.args.self.now.at.items c.requires.clear;
  listed = λ are. record { each = are.each; all = are.all };
  from = refl;
}

pub add-requires-clause-room : goal.add-requires-clause-room
add-requires-clause-room c =
    let within : c.loop-k.k < length c.args.pins.now = omega (arith, c.loop-k-test.true, c.requires.within) in
    let p = get_or c.args.pins.now c.loop-k.k nothing in
    omega (arith, pin_inside c.args.cells.now c.args.self.now.at.items p (c.requires.there c.loop-k.k nothing within) c.requires.room, c.loop-k.invariant.count)

pub loop-k-preserved : goal.loop-k-preserved
loop-k-preserved c =
    let within : c.loop-k.k < length c.args.pins.now = omega (arith, c.loop-k-test.true, c.requires.within) in
    let p = get_or c.args.pins.now c.loop-k.k nothing in
    let lt : p.pin < length c.loop-k.self.at.items =
    omega (arith, pin_inside c.args.cells.now c.args.self.now.at.items p (c.requires.there c.loop-k.k nothing within) c.requires.room, c.loop-k.invariant.count) in
    record {
      count = ap length c.in_ok-add.ensures.sinks ∙ (same_room c.args.cells.now p (slice_index c.args.places.now c.loop-k.k) c.loop-k.self.at.items ∙ c.loop-k.invariant.count);
      entries =
          subst (λ (l : List (Option SinkAt)). AreEntries c.args.cells.now c.args.pins.now c.args.places.now c.args.from (c.loop-k.k + 1) l) (sym c.in_ok-add.ensures.sinks)
          (entry_more c.args.cells.now c.args.pins.now c.args.places.now c.args.from c.loop-k.k p (slice_get-get_or c.args.pins.now c.loop-k.k nothing within) c.loop-k.auto.k
          c.loop-k.self.at.items lt c.loop-k.invariant.entries);
      listed = λ are. c.in_ok-add.ensures.listed (c.loop-k.invariant.listed are);
      from = c.in_ok-add.ensures.from ∙ c.loop-k.invariant.from;
    }

pub returns-clause-count : goal.returns-clause-count
returns-clause-count c = c.loop-k.invariant.count

pub returns-clause-entries : goal.returns-clause-entries
returns-clause-entries c =
    let ends : c.loop-k.k ≡ c.args.to = omega (arith, c.loop-k-test.false, c.loop-k.auto.k-end c.requires.order) in
    subst (λ (n : ℕ). AreEntries c.args.cells.now c.args.pins.now c.args.places.now c.args.from n c.loop-k.self.at.items) ends c.loop-k.invariant.entries

pub returns-clause-listed : goal.returns-clause-listed
returns-clause-listed c = c.loop-k.invariant.listed

pub returns-clause-from : goal.returns-clause-from
returns-clause-from c = c.loop-k.invariant.from
