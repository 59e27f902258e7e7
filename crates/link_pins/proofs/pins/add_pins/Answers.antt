use Rattle.std.proofs.Common.{map, sym}
use Rattle.std.specs.Prelude.{bytes_eq}
use Rattle.std.proofs.lemmas.List.{append-nil}
use Rattle.link_pins.specs.Seen.{connected_at}
use Rattle.link_pins.proofs.PlacedLaws.{pin_turn}
use Rattle.link_pins.proofs.PinLaws.{find_none, no_cell_pins}
use Rattle.link_pins.proofs.pins.add_pins.Goals as goal

pub returns-in_default-clause-added : goal.returns-in_default-clause-added
returns-in_default-clause-added c =
    let none = sym (rw (c.in_default.is, c.bytes.ensures) at c.cell.ensures.place) in
    rw (no_cell_pins c.args.cells.now c.args.nets.now c.args.number c.args.instance.now (find_none (λ d. bytes_eq c.args.instance.now.cell d.name) c.args.cells.now.cells none) c.args.instance.now.pins)
    (sym (append-nil _))

pub pins-preserved : goal.pins-preserved
pins-preserved c = record {
  added =
      pin_turn c.args.cells.now c.args.nets.now c.args.number c.args.instance.now c.pins.rest.now c.pin-item.result (map (connected_at c.args.cells.now c.args.nets.now) c.pins.pins.items)
      (map (connected_at c.args.cells.now c.args.nets.now) c.add_pin.new.pins.items) _ c.in-len1-up.len_at_least c.pin-item.is c.in_ok-add_pin.ensures.added c.pins.invariant.added;
  placed = λ all. c.in_ok-add_pin.ensures.placed (c.pins.invariant.placed all);
}
