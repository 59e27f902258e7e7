use Rattle.std.proofs.Common.{◌≡◌, ◌+◌, ap, ◌∙◌, arith}
use Rattle.drawn_numbers.specs.Draws.{after}
use Rattle.design_gen.specs.Lists.{each_below}
use Rattle.design_gen.specs.Taps.{driver_of, pins, sources}
use Rattle.design_gen.proofs.PinLaws.{drivers_turn}
use Rattle.design_gen.proofs.drivers.draw_drivers.Goals as goal

pub loop-pin-preserved : goal.loop-pin-preserved
loop-pin-preserved c =
    let t = drivers_turn c.args.number c.args.nets c.loop-pin.pin _ _ _ _ _ c.loop-pin.invariant.drivers c.loop-pin.invariant.state
    c.draw_driver.ensures.state c.draw_driver.ensures.driver c.in_ok-push.ensures.items in
    record { drivers = t.0; state = t.1 }

pub pins-requires : goal.pins-requires
pins-requires c = c.requires.count

pub draw_driver-requires-clause-count : goal.draw_driver-requires-clause-count
draw_driver-requires-clause-count c = c.requires.count

pub draw_driver-requires-clause-pin : goal.draw_driver-requires-clause-pin
draw_driver-requires-clause-pin c = omega (arith, c.loop-pin-test.true, c.pins-pin-end.ensures)

pub loop-pin-init : goal.loop-pin-init
loop-pin-init c =
    let none : sources c.args.nets ≡ sources c.args.nets + 0 = omega arith in
    record { drivers = c.in_ok-drivers.ensures.items; state = c.requires.state ∙ ap (after c.args.number) none }

pub returns-clause-drivers : goal.returns-clause-drivers
returns-clause-drivers c =
    let end : c.loop-pin.pin ≡ pins c.args.nets = omega (arith, c.loop-pin-test.false, c.loop-pin.auto.pin-end, c.pins-pin-end.ensures) in
    c.loop-pin.invariant.drivers ∙ ap (each_below (driver_of c.args.number c.args.nets)) end

pub returns-clause-state : goal.returns-clause-state
returns-clause-state c =
    let end : c.loop-pin.pin ≡ pins c.args.nets = omega (arith, c.loop-pin-test.false, c.loop-pin.auto.pin-end, c.pins-pin-end.ensures) in
    c.loop-pin.invariant.state ∙ ap (λ k. after c.args.number (sources c.args.nets + k)) end
