use Rattle.std.proofs.Common.{◌++◌, ◌∷◌, ◌∙◌, [], ap}
use Rattle.link_pins.specs.declared.pins.PinOn.{PinOn}
use Rattle.link_pins.proofs.PinLaws.{adds_no_pin, adds_on_net}
use Rattle.link_pins.proofs.PlacedLaws.{placed_more, placed_by_name}
use Rattle.link_pins.proofs.pins.add_pin.Goals as goal

pub returns-in_ok-push-clause-added : goal.returns-in_ok-push-clause-added
returns-in_ok-push-clause-added c =
    adds_on_net c.args.cells.now c.args.nets.now c.args.number c.args.instance.now c.requires.number c.args.cell c.requires.cell c.args.pin.now
    c.args.pins.now.items c.push.new.self.items c.in-Some.place c.in-Some-net_of.net
    (rw (c.in-Some.is, c.bytes.ensures) at c.pin.ensures.place) (rw c.in-Some-net_of.is at c.net_of.ensures) (c.in_ok-push.ensures.items ∙ ap (λ (p : PinOn). c.args.pins.now.items ++ p ∷ []) c.in_ok-new.ensures)

pub returns-in_ok-push-clause-placed : goal.returns-in_ok-push-clause-placed
returns-in_ok-push-clause-placed c =
    placed_more c.args.cells.now c.args.nets.now c.args.pins.now.items c.push.new.self.items _
    (placed_by_name c.args.cells.now c.args.nets.now c.args.number c.args.instance.now c.requires.number c.args.cell c.requires.cell c.args.pin.now.0
    c.in-Some.place c.in-Some-net_of.net (rw (c.in-Some.is, c.bytes.ensures) at c.pin.ensures.place)) (c.in_ok-push.ensures.items ∙ ap (λ (p : PinOn). c.args.pins.now.items ++ p ∷ []) c.in_ok-new.ensures)

pub returns-in_default-clause-added : goal.returns-in_default-clause-added
returns-in_default-clause-added c =
    adds_no_pin c.args.cells.now c.args.nets.now c.args.number c.args.instance.now c.requires.number c.args.cell c.requires.cell c.args.pin.now
    c.args.pins.now.items (rw (c.in_default.is, c.bytes.ensures) at c.pin.ensures.place)
